-- The full terms stand together, and those that begin with the prefix are counted there; or they do
-- not.
use Rattle.std.proofs.Common.{◌≡◌, length, map, arith, refl, ap, ◌∙◌}
use Rattle.std.specs.Vec.{with_items}
use Rattle.std.proofs.lemmas.Result.{err_from_is_err_and}
use Rattle.qm_combine.proofs.Leading.{whole}
use Rattle.qm_docset.specs.Entry.{from}
use Rattle.qm_phrase.specs.PhrasePrefix.{prefix_count}
use Rattle.qm_phrase.specs.Places.{places_of}
use Rattle.qm_phrase.specs.PrefixTerms.{lists_of}
use Rattle.qm_phrase.specs.Suffixes.{suffix_lists}
use Rattle.qm_phrase.specs.declared.prefix_terms.PrefixTerms.{PrefixTerms}
use Rattle.qm_phrase.proofs.FullTerms.{IsCommonBuffer-kept}
use Rattle.qm_phrase.proofs.PrefixMoves.{HaveGoneOn-terms, IsPrefixLook-passed, counted-is, full_count-terms}
use Rattle.qm_phrase.proofs.TermMoves.{from_later}
use Rattle.qm_phrase.proofs.prefix_terms.PrefixTerms.look_at.Goals as goal

pub returns-in_err-full-clause-answer : goal.returns-in_err-full-clause-answer
returns-in_err-full-clause-answer g c =
    let p = err_from_is_err_and c.from_residual.result c.from_residual.ensures.1 in
    rw (p.1, p.2) (IsPrefixLook-passed g.P.DocSet c.args.self.now c.args.doc c.in_err-full.field-0.0 c.requires.valid.full c.in_err-full.ensures.answer)

pub returns-in_err-full-clause-moved : goal.returns-in_err-full-clause-moved
returns-in_err-full-clause-moved g c =
    let self = c.args.self.now in
    let new : PrefixTerms g.row.P.Denot = record {
      full = c.look_at_full.new.self;
      common = c.look_at_full.new.common;
      suffixes = self.suffixes;
      suffix_places = self.suffix_places;
    } in
    HaveGoneOn-terms g.P.DocSet c.args.doc self new c.look_at_full.ensures.moved refl refl

pub returns-in-0-clause-moved : goal.returns-in-0-clause-moved
returns-in-0-clause-moved g c =
    let self = c.args.self.now in
    let step = c.look_at_full in
    let count = c.count_suffixes in
    let suffixes =
    whole self.suffixes.len count.new.row self.suffixes.items (count.auto.row ∙ ap length c.deref_mut.ensures.value) self.suffixes.ok.0 in
    let new : PrefixTerms g.row.P.Denot = record {
      full = step.new.self;
      common = count.new.common;
      suffixes = with_items self.suffixes count.new.row;
      suffix_places = count.new.places;
    } in
    let same = rw c.deref_mut.ensures.value at count.ensures.entries in
    HaveGoneOn-terms g.P.DocSet c.args.doc self new step.ensures.moved (ap (λ r. map (from c.args.doc) (suffix_lists g.P.DocSet r)) suffixes
    ∙ ap (map (from c.args.doc)) same ∙ from_later g.P.DocSet c.args.doc c.args.doc (suffix_lists g.P.DocSet self.suffixes.items) (omega arith)) count.ensures.shift

pub returns-in_default-clause-moved : goal.returns-in_default-clause-moved
returns-in_default-clause-moved g c =
    let self = c.args.self.now in
    let step = c.look_at_full in
    let count = c.count_suffixes in
    let suffixes =
    whole self.suffixes.len count.new.row self.suffixes.items (count.auto.row ∙ ap length c.deref_mut.ensures.value) self.suffixes.ok.0 in
    let new : PrefixTerms g.row.P.Denot = record {
      full = step.new.self;
      common = count.new.common;
      suffixes = with_items self.suffixes count.new.row;
      suffix_places = count.new.places;
    } in
    let same = rw c.deref_mut.ensures.value at count.ensures.entries in
    HaveGoneOn-terms g.P.DocSet c.args.doc self new step.ensures.moved (ap (λ r. map (from c.args.doc) (suffix_lists g.P.DocSet r)) suffixes
    ∙ ap (map (from c.args.doc)) same ∙ from_later g.P.DocSet c.args.doc c.args.doc (suffix_lists g.P.DocSet self.suffixes.items) (omega arith)) count.ensures.shift

pub returns-in-0-clause-valid : goal.returns-in-0-clause-valid
returns-in-0-clause-valid g c =
    let self = c.args.self.now in
    let step = c.look_at_full in
    let count = c.count_suffixes in
    let suffixes =
    whole self.suffixes.len count.new.row self.suffixes.items (count.auto.row ∙ ap length c.deref_mut.ensures.value) self.suffixes.ok.0 in
    record {
      full = step.ensures.moved.valid;
      common = IsCommonBuffer-kept g.P.DocSet step.new.self step.new.self step.new.common count.new.common step.ensures.buffer refl refl
          count.ensures.common_shift (omega (arith, count.ensures.common_room));
      suffixes = rw suffixes count.ensures.row;
      shift = omega (arith, count.ensures.shift, c.requires.valid.shift);
    }

pub returns-in_default-clause-valid : goal.returns-in_default-clause-valid
returns-in_default-clause-valid g c =
    let self = c.args.self.now in
    let step = c.look_at_full in
    let count = c.count_suffixes in
    let suffixes =
    whole self.suffixes.len count.new.row self.suffixes.items (count.auto.row ∙ ap length c.deref_mut.ensures.value) self.suffixes.ok.0 in
    record {
      full = step.ensures.moved.valid;
      common = IsCommonBuffer-kept g.P.DocSet step.new.self step.new.self step.new.common count.new.common step.ensures.buffer refl refl
          count.ensures.common_shift (omega (arith, count.ensures.common_room));
      suffixes = rw suffixes count.ensures.row;
      shift = omega (arith, count.ensures.shift, c.requires.valid.shift);
    }

pub returns-in-0-clause-answer : goal.returns-in-0-clause-answer
returns-in-0-clause-answer g c =
    let self = c.args.self.now in
    let counted = rw c.deref_mut.ensures.value at c.count_suffixes.ensures.count in
    let count = counted-is g.P.DocSet self c.args.doc c.count_suffixes.result.0 (places_of c.look_at_full.new.common) c.in_ok-full.ensures.common counted in
    let none : prefix_count (lists_of g.P.DocSet self) c.args.doc ≡ 0 = omega (arith, count, c.in-0.is) in (
      omega arith,
      omega (arith, c.requires.doc),
      λ d low high. let level : d ≡ c.args.doc = omega arith in
          ap (prefix_count (lists_of g.P.DocSet self)) level ∙ none,
    )

pub returns-in_default-clause-answer : goal.returns-in_default-clause-answer
returns-in_default-clause-answer g c =
    let self = c.args.self.now in
    let counted = rw c.deref_mut.ensures.value at c.count_suffixes.ensures.count in
    record {
      some = omega arith;
      prefix = counted-is g.P.DocSet self c.args.doc c.count_suffixes.result.0 (places_of c.look_at_full.new.common) c.in_ok-full.ensures.common counted;
      full = omega (arith, c.in_ok-full.ensures.answer.1, full_count-terms g.P.DocSet self c.args.doc c.requires.valid.full);
    }
