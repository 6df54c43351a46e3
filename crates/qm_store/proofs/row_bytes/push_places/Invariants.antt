use Rattle.std.proofs.Common.{◌≡◌, ◌≤◌, ◌++◌, drop, length}
use Rattle.qm_postings.specs.LentRow.{lent_row}
use Rattle.qm_postings.specs.Rows.{ArePlaces}
use Rattle.qm_store.specs.RowBytes.{places_bytes}
use Rattle.qm_store.proofs.row_bytes.push_places.Given as goal

abbrev pub invariant-loop-place : goal.invariant-loop-place
invariant-loop-place l =
    let r = lent_row l.row in
    record {
      within : l.start ≤ length r.positions;
      added : l.out.items ++ places_bytes (drop l.place r.frequencies) (drop l.start r.positions) ≡ l.fn.out.items ++ places_bytes r.frequencies r.positions;
      places : ArePlaces (drop l.place r.frequencies) (drop l.start r.positions);
    }
