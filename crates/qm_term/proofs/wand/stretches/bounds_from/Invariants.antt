use Rattle.std.proofs.Common.{◌≡◌, ℕ, ◌+◌, ◌<◌, drop, get_or, map}
use Rattle.qm_term.specs.HeadRow.{AreHeads, row_lists}
use Rattle.qm_term.specs.Heads.{listed}
use Rattle.qm_term.specs.Pivot.{pivot_bounds}
use Rattle.qm_term.specs.RunScorers.{wand_member}
use Rattle.qm_term.specs.Stretches.{IsLookedAt}
use Rattle.qm_term.specs.declared.wand.heads.Head.{Head}
use Rattle.qm_term.proofs.wand.stretches.bounds_from.Given as goal

abbrev pub invariant-loop-k : goal.invariant-loop-k
invariant-loop-k g l = record {
  heads : AreHeads l.scorers l.heads;
  lists : row_lists l.scorers l.heads ≡ row_lists l.fn.scorers l.fn.heads;
  known : (j : ℕ) (d : Head) → j < l.k → IsLookedAt l.low (get_or l.heads j d);
  sum : l.sum + pivot_bounds l.low (map (listed (map wand_member l.fn.scorers)) (drop l.k l.fn.heads)) ≡ pivot_bounds l.low (row_lists l.fn.scorers l.fn.heads);
}
