use Rattle.std.proofs.Common.{◌≡◌, ◌≤◌, drop, length}
use Rattle.qm_term.specs.Cells.{AreAlike, HoldLists, cuts}
use Rattle.qm_term.specs.HeadRow.{AreHeads, row_lists}
use Rattle.qm_term.specs.Pivot.{cut}
use Rattle.qm_term.proofs.RowAligns.{mapped_from}
use Rattle.qm_term.proofs.wand.stretches.fill.Given as goal

abbrev pub invariant-loop-k : goal.invariant-loop-k
invariant-loop-k g l =
    let ls = row_lists l.fn.scorers l.fn.heads in
    record {
      heads : AreHeads l.scorers l.heads;
      within : l.k ≤ length l.fn.heads;
      lists : row_lists l.scorers l.heads ≡ mapped_from (cut l.end) l.k ls;
      holds : HoldLists g.C.ScoreCombiner.step l.end (cuts l.low (drop l.k ls)) l.cells;
      alike : AreAlike l.fn.cells l.cells;
    }

abbrev pub decreases-loop-k : goal.decreases-loop-k
decreases-loop-k g l = l.k
