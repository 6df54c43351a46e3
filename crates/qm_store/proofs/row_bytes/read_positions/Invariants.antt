use Rattle.std.proofs.Common.{◌≡◌, ◌-◌}
use Rattle.qm_store.specs.RowBytes.{gaps_at, in_front_of_all}
use Rattle.qm_store.specs.RowsPushed.{HaveSamePostings}
use Rattle.qm_store.proofs.row_bytes.read_positions.Given as goal

abbrev pub invariant-loop-place : goal.invariant-loop-place
invariant-loop-place l = record {
  whole : in_front_of_all l.rows.positions (gaps_at (l.count - l.place) l.low l.rest) ≡ in_front_of_all l.fn.rows.positions (gaps_at l.count 0 l.bytes);
  kept : HaveSamePostings l.fn.rows l.rows;
}
