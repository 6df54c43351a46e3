use Rattle.std.proofs.Common.{◌≡◌, take}
use Rattle.qm_merge.specs.AliveRows.{rows_left}
use Rattle.qm_merge.proofs.alive_rows.alive_rows.Given as goal

abbrev pub invariant-loop-place : goal.invariant-loop-place
invariant-loop-place l = l.rows.items ≡ rows_left l.numbers (take l.place l.segment.rows)
