-- What was saved of an index.
use Rattle.std.specs.Prelude.{ℕ, ◌<◌}
use Rattle.qm_store.specs.declared.kept_segment.KeptSegment.{KeptSegment}

-- the files of a segment have numbers below another
pub record IsNumberedBelow (next : ℕ) (k : KeptSegment) : Type 0 where
  pub key : k.key < next
  pub deletions : k.deletions < next
