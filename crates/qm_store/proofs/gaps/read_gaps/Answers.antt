use Rattle.std.proofs.Common.{◌≡◌, ◌+◌, ◌-◌, List, ◌++◌, ◌∷◌, [], ℕ, ap, sym, ◌∙◌, arith}
use Rattle.qm_store.specs.RowBytes.{gaps_at, in_front_of_all}
use Rattle.qm_store.proofs.GapBytes.{ends, goes-on, stops}
use Rattle.qm_store.proofs.gaps.read_gaps.Goals as goal

pub returns-in_default : goal.returns-in_default
returns-in_default c =
    let at = c.loop-place in
    stops at.numbers.items at.rest.now (c.args.count - at.place) at.low _ at.invariant.whole (omega (arith, c.loop-place-test.true)) (sym c.in_default.ensures.read)

pub loop-place-preserved : goal.loop-place-preserved
loop-place-preserved c =
    let at = c.loop-place in
    let left = c.args.count - at.place in
    let number = c.in-Some.number in
    let e : c.args.count - (at.place + 1) ≡ left - 1 = omega arith in
    record {
      whole =
          ap (λ (xs : List ℕ). in_front_of_all xs (gaps_at (c.args.count - (at.place + 1)) (number + 1) c.in-Some.behind.now)) c.in_ok-push.ensures.items
          ∙ ap (λ (k : ℕ). in_front_of_all (at.numbers.items ++ number ∷ []) (gaps_at k (number + 1) c.in-Some.behind.now)) e
          ∙ goes-on at.numbers.items at.rest.now left at.low _ at.invariant.whole (omega (arith, c.loop-place-test.true)) number c.in-Some.behind.now
          (sym c.in-Some.ensures.read);
    }

pub returns : goal.returns
returns c =
    let at = c.loop-place in
    ends at.numbers.items at.rest.now (c.args.count - at.place) at.low _ at.invariant.whole (omega (arith, c.loop-place-test.false, at.auto.place-end))
