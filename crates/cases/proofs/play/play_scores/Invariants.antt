use Rattle.std.proofs.Common.{IsTrue}
use Rattle.cases.proofs.play.play_scores.Given as goal

abbrev pub invariant-loop-row : goal.invariant-loop-row
invariant-loop-row g l = record {
  valid : g.S.DocSet.valid l.scorer;
  placed : IsTrue l.placed → g.S.DocSet.placed l.scorer;
}
