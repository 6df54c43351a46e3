use Rattle.std.proofs.Common.{◌+◌, ◌/◌, ◌≤◌, get_or, arith, subst, inl, inr}
use Rattle.std.proofs.lemmas.Bool.{cases_lt}
use Rattle.qm_scorer.proofs.LeastRows.{AreLeasts-few, AreLeasts-many, AreLeasts-passed}
use Rattle.qm_scorer.proofs.least_docs.LeastDocs.next_below.Goals as goal

pub next_span-span-requires-clause-within : goal.next_span-span-requires-clause-within
next_span-span-requires-clause-within c =
    omega (arith, c.len-len.ensures, c.end_of_span-end.ensures, c.if-end-len.false, AreLeasts-many _ _ c.requires.valid.leasts)

pub overflow_mul-span : goal.overflow_mul-span
overflow_mul-span c = record {
  fits = omega (arith, c.next_span-span.ensures.within.1, AreLeasts-few _ _ c.requires.valid.leasts, c.args.self.now.docs.ok.0);
}

pub returns-clause-passed : goal.returns-clause-passed
returns-clause-passed c k from below =
    let target = c.args.target in
    let end = c.end_of_span-end.ensures in
    elim (cases_lt k c.end_of_span-end.result) [
      | inl near ↦ subst (λ row. target ≤ get_or row k 0) c.deref.ensures.value
          (c.first_below-place.ensures.passed k from (omega (arith, near, c.if-place-end.false)))
      | inr far ↦ elim (cases_lt k c.min.result) [
        | inl skipped ↦ AreLeasts-passed _ _ target (c.args.from / 32 + 1) c.next_span-span.result k c.requires.valid.leasts
            c.next_span-span.ensures.passed
            (omega (arith, far, end, c.if-end-len.false)) (omega (arith, skipped, c.min.ensures)) (omega (arith, skipped, c.min.ensures, c.len-len.ensures))
        | inr behind ↦ subst (λ row. target ≤ get_or row k 0) c.deref-2.ensures.value (c.first_below.ensures.passed k behind below)
      ]
    ]
