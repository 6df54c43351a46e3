use Rattle.std.proofs.Common.{◌-◌, ℕ, ◌<◌, ◌≤◌, slice_index_or}
use Rattle.qm_scorer.proofs.least_docs.first_below.Given as goal

abbrev pub invariant-loop-place : goal.invariant-loop-place
invariant-loop-place l = record {
  order : l.from ≤ l.place;
  within : l.place ≤ l.end;
  passed : (k : ℕ) → l.from ≤ k → k < l.place → l.target ≤ slice_index_or l.row k 0;
}

abbrev pub decreases-loop-place : goal.decreases-loop-place
decreases-loop-place l = l.end - l.place
