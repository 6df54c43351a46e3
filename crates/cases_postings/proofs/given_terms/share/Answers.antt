-- One more term, with postings of its own or with others'.
use Rattle.std.proofs.Common.{◌≡◌, ◌≤◌, ◌++◌, [], ◌∷◌, List, All, length, ap, arith, subst, sym, ◌∙◌}
use Rattle.std.proofs.Math.Seq.{get_or-append_seam}
use Rattle.std.proofs.lemmas.Iterator.Consumers.{YieldsList-end}
use Rattle.std.proofs.lemmas.Iterator.Adapters.{YieldsList-from_vec}
use Rattle.std.proofs.lemmas.List.{get_or_append_left, length-append, map-id}
use Rattle.std.proofs.lemmas.List.Elements.{All-push}
use Rattle.cases_postings.specs.GivenTerms.{IsGiven}
use Rattle.cases_postings.specs.contracts.own_postings.OwnPostingsDocSet.TheImpl as own
use Rattle.cases_postings.specs.declared.given_terms.GivenTerm.{GivenTerm}
use Rattle.qm_phrase.specs.PhraseTerms.{members_of, offsets_of}
use Rattle.cases_postings.proofs.given_terms.share.Goals as goal

before : (terms : List GivenTerm) (t : GivenTerm) → All IsGiven (terms ++ t ∷ []) → All IsGiven terms
before terms t all k d below =
    subst IsGiven (get_or_append_left terms (t ∷ []) d k below) (all k d (omega (arith, below, length-append terms (t ∷ []))))

last : (terms : List GivenTerm) (t : GivenTerm) → All IsGiven (terms ++ t ∷ []) → IsGiven t
last terms t all = subst IsGiven (get_or-append_seam terms t [] t) (all (length terms) t (omega (arith, length-append terms (t ∷ []))))

pub loop-term-preserved-in_ok-made-in-Own : goal.loop-term-preserved-in_ok-made-in-Own
loop-term-preserved-in_ok-made-in-Own c =
    let yielded = c.loop-term.yielded in
    let term = c.in-Some.term in
    let more = c.in_ok-made-in-Own.ensures in
    record {
      valid = λ all. subst (All own.ghosts.valid) (sym more.members) (All-push own.ghosts.valid (members_of c.loop-term.made) c.in-Own.postings
          (c.loop-term.invariant.valid (before yielded term all)) (subst IsGiven c.in-Own.is (last yielded term all)).0);
      offsets = λ all. subst (All (λ offset. offset ≤ 4294967295)) (sym more.offsets) (All-push (λ offset. offset ≤ 4294967295)
          (offsets_of c.loop-term.made) c.in-Own.offset (c.loop-term.invariant.offsets (before yielded term all))
          (subst IsGiven c.in-Own.is (last yielded term all)).1);
      count = omega (
        arith,
        ap length more.offsets,
        c.loop-term.invariant.count,
        length-append (offsets_of c.loop-term.made) (c.in-Own.offset ∷ []),
        length-append yielded (term ∷ []),
      );
    }

pub loop-term-preserved : goal.loop-term-preserved
loop-term-preserved c =
    let yielded = c.loop-term.yielded in
    let term = c.in-Some.term in
    let more = c.in_ok-made-in-Equal.ensures in
    record {
      valid = λ all. subst (All own.ghosts.valid) (sym more.members) (c.loop-term.invariant.valid (before yielded term all));
      offsets = λ all. subst (All (λ offset. offset ≤ 4294967295)) (sym more.offsets) (All-push (λ offset. offset ≤ 4294967295)
          (offsets_of c.loop-term.made) c.in-Equal.offset (c.loop-term.invariant.offsets (before yielded term all))
          (subst IsGiven c.in-Equal.is (last yielded term all)));
      count = omega (
        arith,
        ap length more.offsets,
        c.loop-term.invariant.count,
        length-append (offsets_of c.loop-term.made) (c.in-Equal.offset ∷ []),
        length-append yielded (term ∷ []),
      );
    }

pub returns-clause-valid : goal.returns-clause-valid
returns-clause-valid c =
    let given = c.into_iter-term-iterator.ensures.into_iter_gives in
    let whole = YieldsList-end (YieldsList-from_vec c.args.given.items given.0 (given.1 ∙ c.args.given.ok.0))
    c.loop-term.yielded _ c.loop-term.yielded_by _ c.next.new.self c.in-None.is c.next.ensures.steps in
    let yielded : c.loop-term.yielded ≡ c.args.given.items = sym (map-id c.loop-term.yielded) ∙ whole.0 in
    c.loop-term.invariant.valid (subst (All IsGiven) (sym yielded) c.requires)

pub returns-clause-offsets : goal.returns-clause-offsets
returns-clause-offsets c =
    let given = c.into_iter-term-iterator.ensures.into_iter_gives in
    let whole = YieldsList-end (YieldsList-from_vec c.args.given.items given.0 (given.1 ∙ c.args.given.ok.0))
    c.loop-term.yielded _ c.loop-term.yielded_by _ c.next.new.self c.in-None.is c.next.ensures.steps in
    let yielded : c.loop-term.yielded ≡ c.args.given.items = sym (map-id c.loop-term.yielded) ∙ whole.0 in
    c.loop-term.invariant.offsets (subst (All IsGiven) (sym yielded) c.requires)

pub returns-clause-count : goal.returns-clause-count
returns-clause-count c =
    let given = c.into_iter-term-iterator.ensures.into_iter_gives in
    let whole = YieldsList-end (YieldsList-from_vec c.args.given.items given.0 (given.1 ∙ c.args.given.ok.0))
    c.loop-term.yielded _ c.loop-term.yielded_by _ c.next.new.self c.in-None.is c.next.ensures.steps in
    let yielded : c.loop-term.yielded ≡ c.args.given.items = sym (map-id c.loop-term.yielded) ∙ whole.0 in
    c.loop-term.invariant.count ∙ ap length yielded
