-- The run over what the lists have from here on, from the threshold on, is still to be made.
use Rattle.std.proofs.Common.{◌≡◌, ℕ, ℤ, ◌+◌, ◌*◌, ◌-◌, ◌≤◌}
use Rattle.qm_docset.specs.Entry.{greatest_score}
use Rattle.qm_docset.specs.declared.numbers.TheConstants.{TERMINATED}
use Rattle.qm_term.specs.Cells.{AreClear, cells_clear, cuts}
use Rattle.qm_term.specs.HeadRow.{AreHeads, row_lists}
use Rattle.qm_term.specs.Runs.{InRange, MayPrune}
use Rattle.qm_term.specs.Members.{united}
use Rattle.qm_term.specs.Pivot.{Pruned, total_top}
use Rattle.qm_term.specs.RunScorers.{ticks_of}
use Rattle.qm_term.specs.contracts.wand.stretches.run_stretches.F-FnMut as fnmut
use Rattle.qm_term.proofs.wand.stretches.run_stretches.Given as goal

abbrev pub invariant-loop-low : goal.invariant-loop-low
invariant-loop-low g l =
    let w = fnmut.words g.row.C g.row.F g.row.N g.F.FnMut in
    let combined = g.C.ScoreCombiner.combined (cells_clear l.fn.cells).state in
    let ls = row_lists l.scorers l.heads in
    record {
      heads : AreHeads l.scorers l.heads;
      fits : total_top ls ≤ greatest_score;
      clear : AreClear l.cells;
      same : cells_clear l.cells ≡ cells_clear l.fn.cells;
      below : l.low ≤ TERMINATED;
      few : ticks_of l.ticks ≤ 4096 * l.low;
      may : MayPrune (InRange w.step) w.pre l.threshold l.callback (united combined (cuts l.low ls));
      back : (k : ℕ) (last : ℤ) (h : _) → Pruned (InRange w.step) combined l.threshold l.callback (cuts l.low ls) k last h →
          Pruned (InRange w.step) combined l.fn.threshold l.fn.callback (row_lists l.fn.scorers l.fn.heads) (ticks_of l.ticks + k) last h;
    }

abbrev pub decreases-loop-low : goal.decreases-loop-low
decreases-loop-low g l = TERMINATED - l.low
