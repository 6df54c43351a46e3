use Rattle.std.proofs.Common.{◌<◌, ◌*◌, length, arith, ap, sym, ◌∙◌, true≢false}
use Rattle.std.proofs.lemmas.List.{get_or_read}
use Rattle.qm_docset.specs.TinySet.{tiny_members}
use Rattle.qm_docset.specs.Words.{words_have}
use Rattle.qm_docset.specs.BitSet.{set_has, set_members_from}
use Rattle.qm_docset.proofs.MembersLemmas.{HasNone}
use Rattle.qm_docset.proofs.BitSetLemmas.{HasNone-more, first_in_word, first_in_none}
use Rattle.qm_docset.proofs.bitset.BitSet.first_non_empty_bucket.Goals as goal

pub loop-index-init : goal.loop-index-init
loop-index-init c = record { none = λ x above below. absurd (omega arith) }

pub loop-index-preserved : goal.loop-index-preserved
loop-index-preserved c =
    let words = c.args.self.now.words.items in
    let inside : c.loop-index.index < length words = omega (arith, c.args.self.now.words.ok.0) in
    record {
      none = HasNone-more words (64 * c.args.bucket) c.loop-index.index c.index.result.now inside c.index.ensures
          (c.is_empty.ensures.0 c.if-not-is_empty.false) c.loop-index.invariant.none;
    }

pub returns-then-not-is_empty : goal.returns-then-not-is_empty
unfolding set_has set_members_from
returns-then-not-is_empty c =
    let set = c.args.self.now in
    let inside : c.loop-index.index < length set.words.items = omega (arith, set.words.ok.0) in
    let known = get_or_read set.words.items c.loop-index.index c.index.result.now inside c.index.ensures (record { bits = 0 }) in
    sym (first_in_word set.words.items c.loop-index.index (64 * c.args.bucket) set.max_value (omega arith) c.loop-index.invariant.none set.within
    (λ empty. true≢false (sym (c.is_empty.ensures.1 (ap tiny_members known ∙ empty)) ∙ c.if-not-is_empty.true)))

pub returns : goal.returns
unfolding set_has set_members_from
returns c =
    let set = c.args.self.now in
    let none : HasNone (words_have set.words.items) (64 * c.args.bucket) (64 * length set.words.items) =
    λ x above below. c.loop-index.invariant.none x above (omega (arith, set.words.ok.0)) in
    sym (first_in_none set.words.items (64 * c.args.bucket) set.max_value none)
