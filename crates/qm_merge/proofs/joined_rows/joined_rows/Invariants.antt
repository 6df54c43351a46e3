use Rattle.std.proofs.Common.{◌≡◌, ◌+◌, ◌-◌, ◌≤◌, ◌++◌, drop, length, map}
use Rattle.qm_merge.specs.JoinedRows.{joined_rows, row_behind, rows_of_both}
use Rattle.qm_merge.proofs.joined_rows.joined_rows.Given as goal

abbrev pub decreases-loop-left : goal.decreases-loop-left
decreases-loop-left l = length l.first.rows - l.left + (length l.second.rows - l.right)

abbrev pub invariant-loop-left : goal.invariant-loop-left
invariant-loop-left l = record {
  of_first : l.left ≤ length l.first.rows;
  of_second : l.right ≤ length l.second.rows;
  joined : l.rows.items ++ joined_rows (drop l.left l.first.rows) (map (row_behind l.count) (drop l.right l.second.rows)) ≡ rows_of_both l.first l.second;
}
