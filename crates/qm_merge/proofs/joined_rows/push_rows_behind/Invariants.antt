use Rattle.std.proofs.Common.{◌≡◌, ◌++◌, drop, map}
use Rattle.qm_merge.specs.JoinedRows.{row_behind}
use Rattle.qm_merge.proofs.joined_rows.push_rows_behind.Given as goal

abbrev pub invariant-loop-place : goal.invariant-loop-place
invariant-loop-place l =
    l.rows.items ++ map (row_behind l.count) (drop l.place l.reader.rows) ≡ l.fn.rows.items ++ map (row_behind l.count) (drop l.start l.reader.rows)
