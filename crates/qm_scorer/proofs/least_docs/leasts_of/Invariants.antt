use Rattle.std.proofs.Common.{◌-◌, ◌*◌, ◌+◌, ◌<◌, List, ℕ, ◌++◌, drop, length}
use Rattle.qm_scorer.specs.LeastDocs.{AreLeasts}
use Rattle.qm_scorer.proofs.least_docs.leasts_of.Given as goal

abbrev pub invariant-loop-span : goal.invariant-loop-span
invariant-loop-span l = record {
  within : 32 * l.span < length l.row + 32;
  rest : (others : List ℕ) → AreLeasts others (drop (32 * l.span) l.row) → AreLeasts (l.leasts.items ++ others) l.row;
}

abbrev pub decreases-loop-span : goal.decreases-loop-span
decreases-loop-span l = length l.row - l.span
