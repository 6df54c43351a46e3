-- A run over what is left is one over all that was there.
use Rattle.std.proofs.Common.{◌+◌, ◌*◌, ◌≤◌, length}
use Rattle.qm_term.specs.Cells.{LackAll, all_shown, cells_start, entries_shown}
use Rattle.qm_term.specs.Runs.{InRange, MayPrune}
use Rattle.qm_term.specs.RunScorers.{ticks_of}
use Rattle.qm_term.specs.Stretches.{AreWithin, GoesOn, TakenOut}
use Rattle.qm_term.proofs.wand.drain.drain_word.Given as goal

abbrev pub invariant-loop-taken : goal.invariant-loop-taken
invariant-loop-taken g l =
    let value = g.C.ScoreCombiner.value in
    let start = cells_start l.fn.cells in
    record {
      taken : TakenOut l.fn.cells l.cells;
      within : AreWithin (all_shown value l.cells);
      before : LackAll l.cells 0 (start + 64 * l.word);
      room : ticks_of l.ticks + length (all_shown value l.cells) ≤ ticks_of l.fn.ticks + length (all_shown value l.fn.cells);
      may : MayPrune (InRange (goal.F-step g)) (goal.F-pre g) l.threshold l.callback (entries_shown (all_shown value l.cells));
      goes : GoesOn (InRange (goal.F-step g)) value l.fn.threshold l.fn.callback l.fn.cells (ticks_of l.fn.ticks) l.threshold l.callback l.cells (ticks_of l.ticks);
    }

abbrev pub decreases-loop-taken : goal.decreases-loop-taken
decreases-loop-taken g l = length (all_shown g.C.ScoreCombiner.value l.cells)
