use Rattle.std.proofs.Common.{◌≡◌, drop}
use Rattle.qm_store.specs.RowBytes.{in_front_of_all, places_at}
use Rattle.qm_store.specs.RowsPushed.{HaveSamePostings}
use Rattle.qm_store.proofs.row_bytes.read_places.Given as goal

abbrev pub invariant-loop-place : goal.invariant-loop-place
invariant-loop-place l = record {
  whole : in_front_of_all l.rows.positions (places_at (drop l.place l.fn.rows.frequencies) l.rest)
      ≡ in_front_of_all l.fn.rows.positions (places_at l.fn.rows.frequencies l.bytes);
  kept : HaveSamePostings l.fn.rows l.rows;
}
