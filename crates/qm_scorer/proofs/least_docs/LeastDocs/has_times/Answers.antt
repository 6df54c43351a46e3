use Rattle.std.proofs.Common.{◌≡◌, ◌+◌, ◌-◌, ◌<◌, ◌≤◌, ℕ, List, get_or, length, nat_eq, take, true≢false, arith, sym, ap, ◌∙◌}
use Rattle.std.specs.List.{count_by}
use Rattle.std.proofs.lemmas.Bool.{eq-eqb, ne_eqb}
use Rattle.std.proofs.lemmas.List.{take_all}
use Rattle.std.proofs.lemmas.List.Sums.{count_by_more_yes}
use Rattle.qm_scorer.proofs.LeastRows.{count-passed, least_of-le}
use Rattle.qm_scorer.proofs.least_docs.LeastDocs.has_times.Goals as goal

-- those between two places are past the document
counted : (d : ℕ) (docs : List ℕ) (place next : ℕ) → place ≤ next → next ≤ length docs → ((k : ℕ) → place ≤ k → k < next → d + 1 ≤ get_or docs k 0) →
    count_by (λ e. nat_eq e d) (take next docs) ≡ count_by (λ e. nat_eq e d) (take place docs)
counted d docs place next order within passed =
    ap (λ n. count_by (λ e. nat_eq e d) (take n docs)) (omega (arith, order))
    ∙ count-passed (λ e. nat_eq e d) docs place (next - place) (omega (arith, order, within))
    (λ k from below. ne_eqb (get_or docs k 0) d (λ same. absurd (omega (arith, same, passed k from (omega (arith, below, order))))))

pub returns-then-place-len : goal.returns-then-place-len
returns-then-place-len c =
    let docs = c.args.self.now.docs.items in
    let next = c.next_below-place.ensures in
    let at_end : length docs ≤ c.next_below-place.result = omega (arith, c.if-place-len.true, c.len.ensures) in
    let total : count_by (λ d. nat_eq d c.args.doc) docs ≡ c.loop-count.count =
    ap (count_by (λ d. nat_eq d c.args.doc)) (sym (take_all c.next_below-place.result docs at_end))
    ∙ counted c.args.doc docs c.loop-count.place c.next_below-place.result next.within.0 next.within.1 next.passed ∙ sym c.loop-count.invariant.counted in (
      λ no. absurd (true≢false (sym no)),
      λ enough. absurd (omega (arith, enough, total, c.loop-count-test.true)),
    )

pub loop-count-preserved : goal.loop-count-preserved
loop-count-preserved c =
    let docs = c.args.self.now.docs.items in
    let place = c.next_below-place.result in
    let next = c.next_below-place.ensures in
    let here : place < length docs = omega (arith, next.within.1, c.if-place-len.false, c.len.ensures) in
    let is : get_or docs place 0 ≡ c.args.doc = omega (arith, next.found here, c.requires.least, least_of-le docs place 0 here) in
    record {
      within = omega (arith, here);
      few = omega (arith, c.loop-count.invariant.few, next.within.0);
      counted = sym (count_by_more_yes (λ d. nat_eq d c.args.doc) docs place 0 here (eq-eqb (get_or docs place 0) c.args.doc is)
          ∙ ap (λ n. n + 1) (counted c.args.doc docs c.loop-count.place place next.within.0 next.within.1 next.passed ∙ sym c.loop-count.invariant.counted));
    }
