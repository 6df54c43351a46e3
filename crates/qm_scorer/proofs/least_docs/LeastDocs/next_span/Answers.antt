use Rattle.std.proofs.Common.{◌+◌, ◌/◌, ◌≤◌, get_or, arith, subst, inl, inr}
use Rattle.std.proofs.lemmas.Bool.{cases_lt}
use Rattle.qm_scorer.proofs.LeastRows.{AreLeasts-few, AreLeasts-many, AreLeasts-passed}
use Rattle.qm_scorer.proofs.least_docs.LeastDocs.next_span.Goals as goal

pub first_below-top-requires-clause-order : goal.first_below-top-requires-clause-order
first_below-top-requires-clause-order c =
    omega (arith, c.len.ensures, c.len-len.ensures, c.end_of_span-end.ensures, c.if-end-len.false, AreLeasts-many _ _ c.requires.valid.tops)

pub overflow_mul-top : goal.overflow_mul-top
overflow_mul-top c = record {
  fits = omega (arith, c.first_below-top.ensures.within.1, c.len.ensures, AreLeasts-few _ _ c.requires.valid.tops, c.args.self.now.leasts.ok.0);
}

pub returns-clause-passed : goal.returns-clause-passed
returns-clause-passed c k from below =
    let target = c.args.target in
    let end = c.end_of_span-end.ensures in
    elim (cases_lt k c.end_of_span-end.result) [
      | inl near ↦ subst (λ row. target ≤ get_or row k 0) c.deref.ensures.value
          (c.first_below-place.ensures.passed k from (omega (arith, near, c.if-place-end.false)))
      | inr far ↦ elim (cases_lt k c.min.result) [
        | inl skipped ↦ AreLeasts-passed _ _ target (c.args.from / 32 + 1) c.first_below-top.result k c.requires.valid.tops
            (λ j past before. subst (λ row. target ≤ get_or row j 0) c.deref-2.ensures.value (c.first_below-top.ensures.passed j past before))
            (omega (arith, far, end, c.if-end-len.false)) (omega (arith, skipped, c.min.ensures)) (omega (arith, skipped, c.min.ensures, c.len-len.ensures))
        | inr behind ↦ subst (λ row. target ≤ get_or row k 0) c.deref-3.ensures.value (c.first_below.ensures.passed k behind below)
      ]
    ]
