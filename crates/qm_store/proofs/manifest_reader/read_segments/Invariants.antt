use Rattle.std.proofs.Common.{◌≡◌, ◌-◌}
use Rattle.qm_store.specs.Items.{each_at, items_at}
use Rattle.qm_store.specs.Manifest.{segment_at}
use Rattle.qm_store.proofs.manifest_reader.read_segments.Given as goal

abbrev pub invariant-loop : goal.invariant-loop
invariant-loop l = items_at (λ front rest. segment_at rest) (l.count - l.counter) l.segments.items l.rest ≡ each_at segment_at l.count l.initial.rest
