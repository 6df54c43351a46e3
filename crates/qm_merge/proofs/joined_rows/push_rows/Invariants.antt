use Rattle.std.proofs.Common.{◌≡◌, ◌++◌, drop}
use Rattle.qm_merge.proofs.joined_rows.push_rows.Given as goal

abbrev pub invariant-loop-place : goal.invariant-loop-place
invariant-loop-place l = l.rows.items ++ drop l.place l.reader.rows ≡ l.fn.rows.items ++ drop l.start l.reader.rows
