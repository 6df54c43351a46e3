use Rattle.std.proofs.Common.{IsTrue}
use Rattle.cases_postings.proofs.cursor.play_refused.Given as goal

abbrev pub invariant-loop-number : goal.invariant-loop-number
invariant-loop-number g l = record {
  valid : g.C.DocSet.valid l.cursor;
  placed : IsTrue l.placed → g.C.DocSet.placed l.cursor;
}
