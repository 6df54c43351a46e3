use Rattle.std.proofs.Common.{◌≡◌, ◌≤◌, ◌++◌, drop, length, take}
use Rattle.std.specs.Prelude.{All}
use Rattle.std.specs.List.{flat_map}
use Rattle.qm_store.specs.Places.{IsPlace, place_bytes}
use Rattle.qm_store.proofs.written_places.push_piece.Given as goal

abbrev pub invariant-loop-place : goal.invariant-loop-place
invariant-loop-place l = record {
  whole : l.out.items ++ flat_map place_bytes (drop l.place-index l.piece) ≡ l.fn.out.items ++ flat_map place_bytes l.piece;
  long : length l.fn.out.items ≤ length l.out.items;
  places : All IsPlace (take l.place-index l.piece);
}
