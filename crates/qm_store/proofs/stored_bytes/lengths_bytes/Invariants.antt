use Rattle.std.proofs.Common.{◌≡◌, ◌++◌, drop}
use Rattle.std.specs.List.{flat_map}
use Rattle.qm_postings.specs.Rows.{columns_of}
use Rattle.qm_store.proofs.stored_bytes.lengths_bytes.Given as goal

abbrev pub invariant-loop-id : goal.invariant-loop-id
invariant-loop-id l = record {
  whole : l.out.items ++ flat_map (λ c. c) (drop l.id (columns_of l.segment.segment)) ≡ flat_map (λ c. c) (columns_of l.segment.segment);
}
