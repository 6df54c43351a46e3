use Rattle.std.proofs.Common.{◌≡◌, take}
use Rattle.qm_phrase.specs.Places.{greatest_first_place, least_first_place}
use Rattle.qm_phrase.specs.TermRows.{rows_left}
use Rattle.qm_phrase.proofs.counting.first_places.Given as goal

abbrev pub invariant-loop-row : goal.invariant-loop-row
invariant-loop-row l = record {
  least : l.least ≡ least_first_place (take l.row-index (rows_left l.positions l.rows));
  greatest : l.greatest ≡ greatest_first_place (take l.row-index (rows_left l.positions l.rows));
}
