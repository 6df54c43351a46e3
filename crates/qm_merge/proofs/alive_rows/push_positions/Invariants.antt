use Rattle.std.proofs.Common.{◌≡◌, ◌≤◌, ◌++◌, drop, length}
use Rattle.qm_postings.specs.LentRow.{lent_row}
use Rattle.qm_postings.specs.Rows.{ArePlaces}
use Rattle.qm_merge.specs.AliveRows.{positions_left}
use Rattle.qm_merge.proofs.alive_rows.push_positions.Given as goal

abbrev pub invariant-loop-place : goal.invariant-loop-place
invariant-loop-place l =
    let r = lent_row l.row in
    record {
      within : l.start ≤ length r.positions;
      places : ArePlaces (drop l.place r.frequencies) (drop l.start r.positions);
      added : l.positions.items ++ positions_left l.numbers (drop l.place r.documents) (drop l.place r.frequencies) (drop l.start r.positions)
          ≡ l.fn.positions.items ++ positions_left l.numbers r.documents r.frequencies r.positions;
    }
