-- A folder in which new files and a manifest are written, or are not.
use Rattle.std.specs.Prelude.{◌≡◌, ◌⊎◌, ℕ, List, Some}
use Rattle.qm_folder.specs.Disk.{Contents}
use Rattle.qm_folder.specs.Names.{Name}
use Rattle.qm_folder.specs.declared.new_file.NewFile.{NewFile}
use Rattle.qm_folder.specs.declared.updating.TheConstants.{MANIFEST}
use Rattle.qm_index.specs.FileNames.{IsNameBelow}
use Rattle.qm_index.specs.SavedIndex.{IsAddedTo}

-- The manifest is a new one, the new files stand whole, and those of lower numbers are what they were.
pub record IsWritten (first : ℕ) (new : List NewFile) (bytes : List ℕ) (old c : Contents) : Type 0 where
  pub manifest : c MANIFEST.now ≡ Some bytes
  pub files : IsAddedTo first new old c

-- The manifest is that of before, and so are the files of lower numbers.
pub record IsUnwritten (first : ℕ) (old c : Contents) : Type 0 where
  pub manifest : c MANIFEST.now ≡ old MANIFEST.now
  pub files : (n : Name) → IsNameBelow first n → c n ≡ old n

-- one of the two
abbrev pub IsWrittenOrNot : ℕ → List NewFile → List ℕ → Contents → Contents → Type 0
IsWrittenOrNot first files manifest old c = IsWritten first files manifest old c ⊎ IsUnwritten first old c
