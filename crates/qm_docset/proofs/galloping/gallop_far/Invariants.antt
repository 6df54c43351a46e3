use Rattle.std.proofs.Common.{ℕ, ◌<◌, ◌≤◌, length, get_or, ◌-◌}
use Rattle.qm_docset.proofs.galloping.gallop_far.Given as goal

abbrev pub invariant-loop-stride : goal.invariant-loop-stride
invariant-loop-stride l = record {
  from_start : l.start ≤ l.low;
  ordered : l.low ≤ l.high;
  within : l.high ≤ length l.docs;
  positive : 1 ≤ l.stride;
  passed : (k : ℕ) → l.start ≤ k → k < l.low → get_or l.docs k 0 < l.target;
  reached : l.high < length l.docs → l.target ≤ get_or l.docs l.high 0;
}

abbrev pub decreases-loop-stride : goal.decreases-loop-stride
decreases-loop-stride l = l.high - l.low

abbrev pub invariant-loop-low : goal.invariant-loop-low
invariant-loop-low l = record {
  from_start : l.start ≤ l.low;
  ordered : l.low ≤ l.high;
  within : l.high ≤ length l.docs;
  passed : (k : ℕ) → l.start ≤ k → k < l.low → get_or l.docs k 0 < l.target;
  reached : l.high < length l.docs → l.target ≤ get_or l.docs l.high 0;
}

abbrev pub decreases-loop-low : goal.decreases-loop-low
decreases-loop-low l = l.high - l.low
