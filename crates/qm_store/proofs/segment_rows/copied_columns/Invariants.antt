use Rattle.std.proofs.Common.{◌≡◌, map, take}
use Rattle.qm_store.proofs.segment_rows.copied_columns.Given as goal

abbrev pub invariant-loop-column : goal.invariant-loop-column
invariant-loop-column l = record {
  whole : map (λ c. c.items) l.copy.items ≡ map (λ c. c.items) (take l.column-index l.columns);
}
