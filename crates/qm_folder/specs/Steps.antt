-- What the parts of an update leave behind.
use Rattle.std.specs.Prelude.{◌≡◌, ◌⊎◌, ℕ, false, List, [], ◌∷◌, All, None, Some}
use Rattle.qm_folder.specs.Names.{Name, file_name, is_among}
use Rattle.qm_folder.specs.Disk.{Disk, Contents, IsSettled}
use Rattle.qm_folder.specs.Calls.{IsRemoved, Stands}
use Rattle.qm_folder.specs.declared.updating.TheConstants.{MANIFEST, STAGED}
use Rattle.qm_folder.specs.declared.new_file.NewFile.{NewFile}

-- but under these names a crash leaves what it might have left before
abbrev pub IsLeftBut : List Name → Disk → Contents → Type 0
IsLeftBut names old c = (n : Name) → is_among names n ≡ false → old.may_leave n (c n)

-- a file with these bytes stands under the name, and they are on the disk
pub record IsWritten (name : Name) (bytes : List ℕ) (d : Disk) : Type 0 where
  pub stands : Stands name bytes d
  pub written : d.written name

-- each of these files is
abbrev pub AreWritten : List NewFile → Disk → Type 0
AreWritten files d = All (λ f. IsWritten (file_name f) f.bytes.items d) files

-- each of these files stands there, whole
abbrev pub AreWhole : List NewFile → Contents → Type 0
AreWhole files c = All (λ f. c (file_name f) ≡ Some f.bytes.items) files

-- the new files and the new manifest are on the disk, the manifest under the name that it has before it counts
pub record IsPrepared (files : List NewFile) (manifest : List ℕ) (d : Disk) : Type 0 where
  pub settled : IsSettled d
  pub staged : IsWritten STAGED.now manifest d
  pub whole : AreWhole files d.seen

-- the new manifest counts, on the disk too
pub record IsCommitted (old new : Disk) : Type 0 where
  pub settled : IsSettled new
  pub there : new.seen MANIFEST.now ≡ old.seen STAGED.now
  pub away : new.seen STAGED.now ≡ None

-- a crash leaves of the manifest what it might have left of it before, or of the new one
pub record IsLeftByCommit (old : Disk) (c : Contents) : Type 0 where
  pub others : IsLeftBut (STAGED.now ∷ MANIFEST.now ∷ []) old c
  pub manifest : old.may_leave MANIFEST.now (c MANIFEST.now) ⊎ old.may_leave STAGED.now (c MANIFEST.now)

-- nothing stands under any of these names, and nothing of them is to be written
abbrev pub AreRemoved : List Name → Disk → Type 0
AreRemoved names d = All (λ n. IsRemoved n d) names

-- nothing stands under any of these names, on the disk too
pub record IsCleared (gone : List Name) (d : Disk) : Type 0 where
  pub settled : IsSettled d
  pub away : All (λ n. d.seen n ≡ None) gone
