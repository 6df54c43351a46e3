use Rattle.std.proofs.Common.{◌≡◌, ◌-◌, ◌*◌, ◌<◌, ◌++◌, length, take}
use Rattle.std.specs.Prelude.{All}
use Rattle.qm_store.specs.Places.{IsPlace, piece_count, piece_start, pieces_bytes}
use Rattle.qm_store.proofs.PlaceSteps.{pieces}
use Rattle.qm_store.proofs.written_places.push_pieces.Given as goal

abbrev pub invariant-loop-number : goal.invariant-loop-number
invariant-loop-number l = record {
  whole : l.out.items ++ pieces l.key l.places l.number (piece_count (length l.places) - l.number) ≡ l.fn.out.items ++ pieces_bytes l.key l.places;
  start : l.number * 256 < length l.places → length l.out.items ≡ piece_start l.number;
  places : All IsPlace (take (l.number * 256) l.places);
}
