use Rattle.std.proofs.Common.{◌≡◌, ◌-◌, length}
use Rattle.qm_store.specs.Fields.{field_at}
use Rattle.qm_store.specs.Items.{each_at, items_at}
use Rattle.qm_store.proofs.field_bytes.read_schema.Given as goal

abbrev pub invariant-loop-place : goal.invariant-loop-place
invariant-loop-place l = record {
  whole : items_at (λ front rest. field_at rest) (l.count - l.place) l.fields l.rest ≡ each_at field_at l.count l.initial.rest;
  many : length l.fields ≡ l.place;
}
