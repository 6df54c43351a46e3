use Rattle.std.proofs.Common.{IsTrue}
use Rattle.cases_postings.proofs.cursor.play_cursor.Given as goal

abbrev pub invariant-loop-row : goal.invariant-loop-row
invariant-loop-row g l = record {
  valid : g.C.DocSet.valid l.cursor;
  placed : IsTrue l.placed → g.C.DocSet.placed l.cursor;
}
