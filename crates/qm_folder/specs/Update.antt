-- What an update of an index makes of a folder, at each moment.
use Rattle.std.specs.Prelude.{◌≡◌, ◌⊎◌, ℕ, true, false, List, ◌∷◌, ◌++◌, None, Some, String}
use Rattle.std.specs.declared.alloc.Global.{Global}
use Rattle.qm_folder.specs.Names.{Name, is_among, file_names, names_of}
use Rattle.qm_folder.specs.Disk.{Disk, Contents, IsSettled}
use Rattle.qm_folder.specs.Steps.{AreWhole}
use Rattle.qm_folder.specs.declared.updating.TheConstants.{MANIFEST, STAGED}
use Rattle.qm_folder.specs.declared.new_file.NewFile.{NewFile}

-- a change of an index: the files that are new, the bytes of the new manifest, and the names of the files that are gone
pub record Change : Type 0 where
  pub files : List NewFile
  pub manifest : List ℕ
  pub gone : List Name

-- the change that an update is asked for
abbrev pub change : List NewFile → List ℕ → List (String Global) → Change
change files manifest gone = record { files = files; manifest = manifest; gone = names_of gone }

-- but under these names the same stands there
abbrev pub IsSameBut : List Name → Contents → Contents → Type 0
IsSameBut names old c = (n : Name) → is_among names n ≡ false → c n ≡ old n

-- the manifest is that of before, and so is each file but the new ones
abbrev pub IsBefore : Change → Disk → Contents → Type 0
IsBefore it old c = IsSameBut (STAGED.now ∷ file_names it.files) old.seen c

-- the manifest is the new one, the new files stand whole, and each other that is not gone is that of before
pub record IsAfter (it : Change) (old : Disk) (c : Contents) : Type 0 where
  pub manifest : c MANIFEST.now ≡ Some it.manifest
  pub files : AreWhole it.files c
  pub others : IsSameBut (STAGED.now ∷ MANIFEST.now ∷ file_names it.files ++ it.gone) old.seen c

-- one of the two
abbrev pub IsBeforeOrAfter : Change → Disk → Contents → Type 0
IsBeforeOrAfter it old c = IsBefore it old c ⊎ IsAfter it old c

-- The update is done, on the disk too: what is gone is away, and so is the manifest's other name.
pub record IsUpdated (it : Change) (old new : Disk) : Type 0 where
  pub settled : IsSettled new
  pub after : IsAfter it old new.seen
  pub away : (n : Name) → is_among it.gone n ≡ true → new.seen n ≡ None
  pub staged : new.seen STAGED.now ≡ None
