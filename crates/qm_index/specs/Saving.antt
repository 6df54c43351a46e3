-- A folder that has an index, and what a save makes of it.
use Rattle.std.specs.Prelude.{◌≡◌, ◌⊎◌, List, [], All, Some}
use Rattle.qm_folder.specs.Disk.{Contents, Disk, LeavesOnly}
use Rattle.qm_folder.specs.declared.updating.TheConstants.{MANIFEST}
use Rattle.qm_store.specs.Manifest.{IsManifest, ManifestFacts, facts_of, manifest_spelled}
use Rattle.qm_store.specs.declared.kept_segment.KeptSegment.{KeptSegment}
use Rattle.qm_index.specs.Indexed.{indexed}
use Rattle.qm_index.specs.SavedFiles.{IsNumberedBelow}
use Rattle.qm_index.specs.SavedIndex.{AreHeld, HaveNothingNew, WereHeld}
use Rattle.qm_index.specs.Writing.{IsUnwritten}
use Rattle.qm_index.specs.declared.index.Index.{Index}

-- what the manifest of an index says, whose segments have these files
abbrev pub manifest_with : Index → List KeptSegment → ManifestFacts
manifest_with i kept = facts_of i.searcher i.block_len kept []

-- A folder has an index: the segments that were ended, with what is deleted of them, and what terms weigh.
pub record HoldsIndex (i : Index) (c : Contents) : Type 0 where
  pub kept : List KeptSegment
  pub fits : IsManifest (manifest_with i kept)
  pub manifest : c MANIFEST.now ≡ Some (manifest_spelled (manifest_with i kept))
  pub segments : AreHeld c kept (indexed i).ended
  -- so there is a number behind all of them
  pub numbered : All (IsNumberedBelow 18446744073709551615) kept

-- nothing of an index is new since it was saved
abbrev pub IsSaved : Index → Type 0
IsSaved i = HaveNothingNew i.saved.segments.items (indexed i).ended

-- a folder has what was saved of an index
abbrev pub IsKeptIn : Index → Contents → Type 0
IsKeptIn i c = WereHeld c i.saved.segments.items (indexed i).ended

-- a folder has the index, or is as it was before, but for files of new numbers
abbrev pub IsSavedOrAsBefore : Index → Contents → Contents → Type 0
IsSavedOrAsBefore i old c = HoldsIndex i c ⊎ IsUnwritten i.saved.next old c

-- A crash at any moment since the old one leaves the index, or what was there before.
abbrev pub LeavesSavedOrAsBefore : Index → Disk → Disk → Type 0
LeavesSavedOrAsBefore i old new = LeavesOnly old new (IsSavedOrAsBefore i old.seen)
