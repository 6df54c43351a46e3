use Rattle.std.proofs.Common.{◌≡◌, map}
use Rattle.std.specs.List.{range_with_len}
use Rattle.qm_merge.specs.JoinedRows.{column_of_both}
use Rattle.qm_merge.proofs.joined_columns.joined_columns.Given as goal

abbrev pub invariant-loop-id : goal.invariant-loop-id
invariant-loop-id l = map (λ c. c.items) l.columns.items ≡ map (column_of_both l.first.segment l.second.segment) (range_with_len 0 l.id)
