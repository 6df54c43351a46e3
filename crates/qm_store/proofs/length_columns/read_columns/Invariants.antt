use Rattle.std.proofs.Common.{◌≡◌, ◌++◌, drop, map, option_map}
use Rattle.qm_store.specs.Columns.{columns_at}
use Rattle.qm_store.proofs.length_columns.read_columns.Given as goal

abbrev pub invariant-loop-id : goal.invariant-loop-id
invariant-loop-id l = record {
  whole : option_map (λ back. map (λ c. c.items) l.columns.items ++ back) (columns_at (drop l.id l.schema) l.documents l.rest)
      ≡ columns_at l.schema l.documents l.bytes;
}
