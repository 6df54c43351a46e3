use Rattle.std.proofs.Common.{◌≡◌, ◌+◌, ◌-◌, ◌<◌, ◌≤◌, All, length, min}
use Rattle.qm_phrase.specs.Places.{Ascends, least_first_place}
use Rattle.qm_phrase.specs.Starts.{all_places, starts}
use Rattle.qm_phrase.specs.TermRows.{rows_left, terms_of}
use Rattle.qm_phrase.proofs.counting.count_starts.Given as goal

abbrev pub invariant-loop-count : goal.invariant-loop-count
invariant-loop-count l = record {
  some : 0 < length l.rows;
  rows : All (Ascends 0) (rows_left l.positions l.rows);
  within : l.count ≤ l.most;
  counted : min l.most (l.count + starts l.slop (rows_left l.positions l.rows)) ≡ min l.most (starts l.slop (rows_left l.positions l.fn.rows));
  terms : terms_of l.rows ≡ terms_of l.fn.rows;
}

abbrev pub decreases-loop-count : goal.decreases-loop-count
decreases-loop-count l = all_places - least_first_place (rows_left l.positions l.rows)
