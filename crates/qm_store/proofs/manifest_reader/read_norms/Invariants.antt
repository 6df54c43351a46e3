use Rattle.std.proofs.Common.{◌≡◌, ◌-◌, length, take}
use Rattle.qm_store.specs.Items.{each_at, items_at, small_at}
use Rattle.qm_store.proofs.manifest_reader.read_norms.Given as goal

abbrev pub invariant-loop-place : goal.invariant-loop-place
invariant-loop-place l = record {
  whole : items_at (λ front rest. small_at rest) (256 - l.place) (take l.place l.norms) l.rest ≡ each_at small_at 256 l.bytes;
  long : length l.norms ≡ 256;
}
