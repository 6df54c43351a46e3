use Rattle.std.proofs.Common.{ℕ, ◌<◌, ◌≤◌, length, get_or}
use Rattle.qm_docset.proofs.galloping.gallop.Given as goal

abbrev pub invariant-skips : goal.invariant-skips
invariant-skips l = record {
  from_start : l.start ≤ l.low;
  within : l.low ≤ length l.docs;
  passed : (k : ℕ) → l.start ≤ k → k < l.low → get_or l.docs k 0 < l.target;
}
