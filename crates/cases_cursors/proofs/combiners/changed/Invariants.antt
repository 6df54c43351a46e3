use Rattle.std.proofs.Common.{◌≤◌}
use Rattle.qm_docset.specs.Entry.{greatest_score}
use Rattle.cases_cursors.proofs.Combining.{StandsFor}
use Rattle.cases_cursors.proofs.combiners.changed.Given as goal

abbrev pub invariant-loop-call : goal.invariant-loop-call
invariant-loop-call g l = record {
  stands : StandsFor g.C.ScoreCombiner.step g.C.ScoreCombiner.cleared l.combiner l.total;
  fits : l.total ≤ greatest_score;
}
