use Rattle.qm_term.specs.Pivot.{postings}
use Rattle.qm_term.specs.WandRun.{IsRun, run_lists}
use Rattle.cases_postings.proofs.several.take_turns.Given as goal

abbrev pub invariant-loop-run : goal.invariant-loop-run
invariant-loop-run g l = IsRun l.run

abbrev pub decreases-loop-run : goal.decreases-loop-run
decreases-loop-run g l = postings (run_lists l.run)
