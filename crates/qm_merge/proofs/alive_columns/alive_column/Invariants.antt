use Rattle.std.proofs.Common.{◌≡◌, filter, is_some, map, slice_index}
use Rattle.std.specs.List.{range_with_len}
use Rattle.qm_merge.specs.AliveRows.{number_in}
use Rattle.qm_merge.proofs.alive_columns.alive_column.Given as goal

abbrev pub invariant-loop-doc : goal.invariant-loop-doc
invariant-loop-doc l = l.column.items ≡ map (slice_index l.ids) (filter (λ d. is_some (number_in l.numbers d)) (range_with_len 0 l.doc))
