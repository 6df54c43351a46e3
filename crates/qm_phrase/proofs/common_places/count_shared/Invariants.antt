use Rattle.std.proofs.Common.{◌≡◌, ◌+◌, ◌-◌, ◌≤◌, [], ◌∷◌, All, min}
use Rattle.qm_phrase.specs.Places.{Ascends, least_first_place, places_left, places_of, room_of, shift_of}
use Rattle.qm_phrase.specs.Starts.{all_places, starts}
use Rattle.qm_phrase.proofs.common_places.count_shared.Given as goal

abbrev pub invariant-loop-count : goal.invariant-loop-count
invariant-loop-count l = record {
  rows : All (Ascends 0) (places_left l.row ∷ places_left l.common ∷ []);
  within : l.count ≤ 4294967295;
  counted : min 4294967295 (l.count + starts 0 (places_left l.row ∷ places_left l.common ∷ []))
      ≡ min 4294967295 (starts 0 (places_left l.fn.row ∷ places_of l.fn.common ∷ []));
  all : places_of l.common ≡ places_of l.fn.common;
  common_shift : shift_of l.common ≡ shift_of l.fn.common;
  common_room : room_of l.common ≡ room_of l.fn.common;
  shift : shift_of l.row ≡ shift_of l.fn.row;
  room : room_of l.row ≡ room_of l.fn.row;
}

abbrev pub decreases-loop-count : goal.decreases-loop-count
decreases-loop-count l = all_places - least_first_place (places_left l.row ∷ places_left l.common ∷ [])
