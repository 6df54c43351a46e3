-- An index that was opened.
use Rattle.std.specs.Prelude.{◌≡◌, Option, None, Some}
use Rattle.qm_index.specs.Indexed.{indexed, statistics}
use Rattle.qm_postings.specs.Segment.{empty_segment}
use Rattle.qm_store.specs.declared.store_error.StoreError.{StoreError}
use Rattle.qm_store.specs.declared.store_error.StoreError.TheVariants.{Failed, Memory}
use Rattle.qm_index.specs.declared.index.Index.{Index}

-- there is one that has P
abbrev pub IsThere : {X : Type 0} → (X → Type 0) → Option X → Type 0
IsThere P None = ⊥
IsThere P (Some x) = P x

-- there was no memory left, or the folder failed
abbrev pub IsFolderRefusal : StoreError → Type 0
IsFolderRefusal Memory = Unit {0}
IsFolderRefusal Failed = Unit {0}
IsFolderRefusal error = ⊥

-- An index is one that was saved: it has its ended segments, and terms weigh the same.
pub record IsOpened (saved opened : Index) : Type 0 where
  pub ended : (indexed opened).ended ≡ (indexed saved).ended
  pub current : (indexed opened).current ≡ empty_segment (indexed saved).current.schema (indexed saved).current.block_len
  pub statistics : statistics opened ≡ statistics saved
