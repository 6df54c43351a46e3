use Rattle.std.proofs.Common.{◌≡◌, ◌≤◌, ◌-◌}
use Rattle.qm_store.specs.RowBytes.{behind_both, postings_at}
use Rattle.qm_store.specs.RowsPushed.{HaveSamePositions}
use Rattle.qm_store.proofs.row_bytes.read_postings.Given as goal

abbrev pub invariant-loop-place : goal.invariant-loop-place
invariant-loop-place l = record {
  whole : behind_both l.rows.documents l.rows.frequencies (postings_at (l.count - l.place) l.low l.rest)
      ≡ behind_both l.fn.rows.documents l.fn.rows.frequencies (postings_at l.count 0 l.bytes);
  kept : HaveSamePositions l.fn.rows l.rows;
  small : l.low ≤ 4294967295;
}
