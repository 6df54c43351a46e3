use Rattle.cases_cursors.specs.Played.{IsPlayed}
use Rattle.cases_cursors.proofs.window.changed.Given as goal

abbrev pub invariant-loop-change : goal.invariant-loop-change
invariant-loop-change g l = IsPlayed g.C.ScoreCombiner.step g.C.ScoreCombiner.cleared l.window l.left
