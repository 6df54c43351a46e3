-- Names of files, and lists of them.
use Rattle.std.specs.Prelude.{◌≡◌, ℕ, ◌||◌, Bool, false, List, [], ◌∷◌, map, String}
use Rattle.std.specs.Str.{bytes_eq}
use Rattle.std.specs.String.{string_bytes}
use Rattle.std.specs.declared.alloc.Global.{Global}
use Rattle.qm_folder.specs.declared.new_file.NewFile.{NewFile}

-- the bytes of a name
abbrev pub Name : Type 0
Name = List ℕ

-- whether a name is one of these
abbrev pub is_among : List Name → Name → Bool
is_among [] n = false
is_among (m ∷ ms) n = bytes_eq n m || is_among ms n

-- no name stands twice
abbrev pub AreDistinct : List Name → Type 0
AreDistinct [] = Unit {0}
AreDistinct (n ∷ ns) = (is_among ns n ≡ false) × AreDistinct ns

-- the names that texts are
abbrev pub names_of : List (String Global) → List Name
names_of texts = map string_bytes texts

-- the name of a file
abbrev pub file_name : NewFile → Name
file_name f = string_bytes f.name

-- the names of some files
abbrev pub file_names : List NewFile → List Name
file_names files = map file_name files
