use Rattle.std.proofs.Common.{All, ◌≤ℤ◌, pos}
use Rattle.cases_given.proofs.given.read_weights.Given as goal

abbrev pub invariant-loop-row : goal.invariant-loop-row
invariant-loop-row l = All (λ w. pos 0 ≤ℤ w.1) l.weights.items
