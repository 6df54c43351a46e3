use Rattle.std.proofs.Common.{◌≡◌, map}
use Rattle.std.specs.List.{range_with_len}
use Rattle.qm_merge.specs.AliveRows.{alive_column}
use Rattle.qm_merge.proofs.alive_columns.alive_columns.Given as goal

abbrev pub invariant-loop-id : goal.invariant-loop-id
invariant-loop-id l = map (λ c. c.items) l.columns.items ≡ map (alive_column l.segment.segment) (range_with_len 0 l.id)
