use Rattle.std.proofs.Common.{◌≡◌, map, take, drop}
use Rattle.qm_phrase.specs.Places.{HavePassed, past}
use Rattle.qm_phrase.specs.TermRows.{rows_left, terms_of}
use Rattle.qm_phrase.proofs.counting.pass.Given as goal

abbrev pub invariant-loop-row : goal.invariant-loop-row
invariant-loop-row l = record {
  passed : HavePassed l.floor (map (past l.place) (take l.row-index (rows_left l.positions l.fn.rows))) (take l.row-index (rows_left l.positions l.rows));
  rest : drop l.row-index (rows_left l.positions l.rows) ≡ drop l.row-index (rows_left l.positions l.fn.rows);
  terms : terms_of l.rows ≡ terms_of l.fn.rows;
}
