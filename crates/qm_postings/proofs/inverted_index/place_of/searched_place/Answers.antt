-- The search stands at the range of the term, or between the ranges of others.
use Rattle.std.proofs.Common.{◌≡◌, ◌<◌, List, Some, length, get_or, map, subst}
use Rattle.std.specs.List.{HoldsAt, slice_get}
use Rattle.std.specs.List.Sorted.{IsNonDecreasingBy, IsPartitionPoint}
use Rattle.std.specs.Ordering.{ordering_index}
use Rattle.std.specs.declared.cmp.Ordering.TheVariants.{Less, Equal, Greater}
use Rattle.std.proofs.lemmas.Fn.{always_returns_same}
use Rattle.std.proofs.lemmas.List.{get_or_default}
use Rattle.qm_schema.specs.Term.{term_cmp}
use Rattle.qm_postings.specs.Kept.{PostingsRange}
use Rattle.qm_postings.specs.Reading.{Reader}
use Rattle.qm_postings.proofs.HeldTerms.{holders-none}
use Rattle.qm_postings.proofs.TermPlaces.{apart, found_term, place_of, searchable}
use Rattle.qm_postings.proofs.inverted_index.place_of.searched_place.Goals as goal

pub returns-in_default-clause-none : goal.returns-in_default-clause-none
returns-in_default-clause-none c = λ _.
    let inside = c.reader.inside in
    let t = c.args.sought.term.now in
    let terms = inside.terms.items in
    let Searched : List PostingsRange → Type 0 = λ rs. IsNonDecreasingBy (λ r. ordering_index (term_cmp r.term t)) rs →
    IsPartitionPoint (λ r. term_cmp r.term t ≡ Less) (λ r. term_cmp r.term t ≡ Greater) rs c.in_default.field-0 in
    let searched = subst Searched c.deref.ensures.value (c.in_default.ensures.position (λ r. term_cmp r.term t)
    (always_returns_same _ _ _ (λ a r f called. (called.met.1, λ i. record { 0 = called.met.0 i })))) in
    let others = apart terms t c.in_default.field-0 (searched (searchable terms t c.reader.invariant.0.index.terms)) in
    rw (← c.reader.view_is) (holders-none inside.schema inside.block_len
    (map (λ c. c.items) inside.lengths.items) inside.max_doc terms inside.documents.items inside.frequencies inside.positions.items t others)

pub returns-clause-place : goal.returns-clause-place
returns-clause-place c =
    let inside = c.reader.inside in
    let t = c.args.sought.term.now in
    let terms = inside.terms.items in
    let place = c.in-Ok.place in
    let Within : List PostingsRange → Type 0 = λ rs. place < length rs in
    let within = subst Within c.deref.ensures.value c.in-Ok.ensures.bound in
    let Found : List PostingsRange → Type 0 = λ rs. HoldsAt (λ y. term_cmp y.term t ≡ Equal) rs place in
    let found = subst Found c.deref.ensures.value (c.in-Ok.ensures.position (λ y. term_cmp y.term t)
    (always_returns_same _ _ _ (λ a r f called. (called.met.1, λ i. record { 0 = called.met.0 i })))) in
    let any : PostingsRange = record { term = t; start = 0; count = 0; most = 0; positions_start = 0; positions_count = 0 } in
    let r = get_or terms place any in
    let here = get_or_default terms place any r within in
    let Placed : Reader → Type 0 = λ v. slice_get v.terms place ≡ Some t in
    subst Placed c.reader.view_is (place_of terms t place r within here (found_term terms t place r here found))
