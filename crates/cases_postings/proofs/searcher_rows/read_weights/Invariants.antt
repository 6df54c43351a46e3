use Rattle.std.proofs.Common.{pos, ◌≤ℤ◌, All}
use Rattle.cases_postings.proofs.searcher_rows.read_weights.Given as goal

abbrev pub invariant-loop-pair : goal.invariant-loop-pair
invariant-loop-pair l = All (λ w. pos 0 ≤ℤ w.1) l.weights.items
