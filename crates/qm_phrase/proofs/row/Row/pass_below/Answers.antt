-- The places that are galloped over lie below.
use Rattle.std.proofs.Common.{◌≡◌, ℕ, ◌-◌, ◌<◌, ◌≤◌, length, take, drop, get_or, sym, subst, arith, length-drop}
use Rattle.std.specs.List.Sorted.{IsStrictlyIncreasing}
use Rattle.std.proofs.lemmas.List.{take_all}
use Rattle.qm_phrase.proofs.PassedPlaces.{HasPassed-galloped, strict}
use Rattle.qm_phrase.proofs.row.Row.pass_below.Goals as goal

pub gallop-requires-clause-ascending : goal.gallop-requires-clause-ascending
gallop-requires-clause-ascending c =
    let ps = c.args.positions.now in
    let n = c.args.self.now.passed in
    let left : take (length ps - n) (drop n ps) ≡ drop n ps = take_all (length ps - n) (drop n ps) (omega (arith, length-drop n ps)) in
    subst IsStrictlyIncreasing (sym left) (strict 0 c.args.self.now.shift (drop n ps) c.requires)

pub returns-then-self-positions-clause-left : goal.returns-then-self-positions-clause-left
returns-then-self-positions-clause-left c =
    let ps = c.args.positions.now in
    let n = c.args.self.now.passed in
    let k = c.gallop.result in
    let left : take (length ps - n) (drop n ps) ≡ drop n ps = take_all (length ps - n) (drop n ps) (omega (arith, length-drop n ps)) in
    let passed = subst (λ r. (i : ℕ) → 0 ≤ i → i < k → get_or r i 0 < c.min-target.result) left c.gallop.ensures.passed in
    let within = subst (λ r. k ≤ length r) left c.gallop.ensures.within in
    HasPassed-galloped c.args.place c.args.self.now.shift n k c.min-target.result ps
    (omega (arith, c.min-target.ensures, c.saturating_sub-position.ensures, c.from-then-self-positions.ensures)) passed within
