-- An index in a folder: its manifest, and the files that the manifest names.
use Rattle.std.specs.Prelude.{◌≡◌, ◌⊎◌, ℕ, false, List, [], ◌∷◌, All, None, Some, map}
use Rattle.qm_folder.specs.Names.{Name, file_names, is_among}
use Rattle.qm_folder.specs.Disk.{Content, Contents, Disk, LeavesOnly}
use Rattle.qm_folder.specs.Update.{Change, IsAfter}
use Rattle.qm_folder.specs.declared.updating.TheConstants.{MANIFEST, STAGED}

-- the names in a manifest, where there is one
abbrev pub named_by : (List ℕ → List Name) → Content → List Name
named_by named None = []
named_by named (Some bytes) = named bytes

-- the manifest, and what stands under each name in it
abbrev pub index : (List ℕ → List Name) → Contents → Content × List Content
index named c = (c MANIFEST.now, map c (named_by named (c MANIFEST.now)))

-- The manifest of before names no new file, and the new one none that is gone; neither names a manifest that doesn't count.
pub record NamesOwn (named : List ℕ → List Name) (it : Change) (old : Disk) : Type 0 where
  pub before : All (λ n. is_among (STAGED.now ∷ file_names it.files) n ≡ false) (named_by named (old.seen MANIFEST.now))
  pub after : All (λ n. is_among (STAGED.now ∷ it.gone) n ≡ false) (named it.manifest)

-- the index of before, or that of any folder in which the change is made
abbrev pub IsEitherIndex : (List ℕ → List Name) → Change → Disk → Contents → Type 0
IsEitherIndex named it old c = (index named c ≡ index named old.seen) ⊎ ((after : Contents) → IsAfter it old after → index named c ≡ index named after)

-- a crash at any moment leaves one of the two, whatever names are read in a manifest
abbrev pub LeavesIndex : Change → Disk → Disk → Type 0
LeavesIndex it old new = (named : List ℕ → List Name) → NamesOwn named it old → LeavesOnly old new (IsEitherIndex named it old)
