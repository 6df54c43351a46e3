use Rattle.std.proofs.Common.{◌≡◌, ◌++◌, drop, take}
use Rattle.std.specs.Prelude.{All}
use Rattle.std.specs.List.{flat_map}
use Rattle.qm_store.specs.Fields.{IsField, field_bytes}
use Rattle.qm_store.proofs.field_bytes.push_schema.Given as goal

abbrev pub invariant-loop-id : goal.invariant-loop-id
invariant-loop-id l = record {
  whole : l.out.items ++ flat_map field_bytes (drop l.id l.schema) ≡ l.initial.out.items ++ flat_map field_bytes l.schema;
  fields : All IsField (take l.id l.schema);
}
