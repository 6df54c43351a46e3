use Rattle.std.proofs.Common.{◌≡◌, ◌+◌, ◌-◌, ◌<◌, ◌≤◌, [], length, get_or}
use Rattle.qm_phrase.specs.Places.{least_first_place, places_of, room_of, shift_of}
use Rattle.qm_phrase.specs.Starts.{all_places}
use Rattle.qm_phrase.specs.TermRows.{first_term, rows_left, terms_of}
use Rattle.qm_phrase.proofs.CommonSteps.{IsCollected}
use Rattle.qm_phrase.proofs.common_places.collect_common.Given as goal

abbrev pub invariant-loop-least : goal.invariant-loop-least
invariant-loop-least l = record {
  some : 0 < length l.rows;
  collected : IsCollected (rows_left l.positions l.fn.rows) (rows_left l.positions l.rows) (places_of l.common);
  shift : shift_of l.common ≡ shift_of l.fn.common;
  first : shift_of l.common ≡ (first_term (terms_of l.rows)).0;
  fits : length (places_of l.common) + length (get_or (rows_left l.positions l.rows) 0 []) ≤ room_of l.common;
  room : room_of l.fn.common ≤ room_of l.common;
  terms : terms_of l.rows ≡ terms_of l.fn.rows;
}

abbrev pub decreases-loop-least : goal.decreases-loop-least
decreases-loop-least l = all_places - least_first_place (rows_left l.positions l.rows)
