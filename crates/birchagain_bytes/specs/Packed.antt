-- Files as bytes, one behind the other.
use Rattle.std.specs.Prelude.{◌≡◌, ◌<◌, ◌^◌, ◌==◌, ℕ, if◌then◌else◌, not, nat_eq, nat_lt, List, [], ◌∷◌, ◌++◌, All, IfSome, IsUtf8, Option, Some, Result, Ok, Err, drop, length, map, take, unwrap_or}
use Rattle.std.specs.Cmp.Lexicographic.{pointwise}
use Rattle.std.specs.Int.{w64, from_le_bytes, to_le_bytes}
use Rattle.std.specs.List.{flat_map}
use Rattle.qm_folder.specs.Disk.{Contents}
use Rattle.qm_folder.specs.Names.{AreDistinct, Name}
use Rattle.qm_store.specs.Heads.{head_bytes}
use Rattle.qm_store.specs.Items.{parted_at}
use Rattle.qm_store.specs.RowBytes.{followed_by}
use Rattle.qm_store.specs.Words.{word_at}
use Rattle.birchagain_bytes.specs.declared.refusal.BytesRefusal.{BytesRefusal}
use Rattle.birchagain_bytes.specs.declared.refusal.BytesRefusal.TheVariants.{OtherFile, OtherVersion}

-- a file: its name, and its bytes, but for one that whoever reads has already
pub record File : Type 0 where
  pub name : Name
  pub bytes : Option (List ℕ)

-- what stands there of it
abbrev pub there_of : File → List ℕ
there_of f = unwrap_or f.bytes []

-- lengths that eight bytes have room for, and a name that is text
pub record IsFile (f : File) : Type 0 where
  pub name_length : length f.name < 2 ^ 64
  pub length : length (there_of f) < 2 ^ 64
  pub text : IsUtf8 f.name

-- the bytes of `birchall`
abbrev pub packed_kind : List ℕ
packed_kind = 98 ∷ 105 ∷ 114 ∷ 99 ∷ 104 ∷ 97 ∷ 108 ∷ 108 ∷ []

-- ---- written

-- how many bytes the name has, and how many the file; then both
unfoldable pub named_bytes : Name → List ℕ → List ℕ
named_bytes name bytes = to_le_bytes w64 (length name) ++ (to_le_bytes w64 (length bytes) ++ (name ++ bytes))

abbrev pub file_bytes : File → List ℕ
file_bytes f = named_bytes f.name (there_of f)

-- files, one behind the other
abbrev pub files_bytes : List File → List ℕ
files_bytes fs = flat_map file_bytes fs

-- the same behind the first bytes
abbrev pub packed : List File → List ℕ
packed fs = head_bytes packed_kind ++ files_bytes fs

-- Some bytes are files, one behind the other, no two of which have one name.
pub record AreFiles (bytes : List ℕ) : Type 0 where
  pub files : List File
  pub spelled : bytes ≡ packed files
  pub fit : All IsFile files
  pub distinct : AreDistinct (map (λ f. f.name) files)

-- ---- read

-- what stands behind the first bytes, where these are those of an index
abbrev pub head_at : List ℕ → Result (List ℕ) BytesRefusal
head_at bs = if nat_lt (length bs) 16 then Err OtherFile
    else if not (pointwise nat_eq (take 8 bs) packed_kind) then Err OtherFile
    else if from_le_bytes w64 (take 8 (drop 8 bs)) == 1 then Ok (drop 8 (drop 8 bs)) else Err OtherVersion

-- the name and the bytes of the file that some bytes begin with, and the bytes behind it
unfoldable pub file_at : List ℕ → Option ((Name × List ℕ) × List ℕ)
file_at bs =
    followed_by (word_at bs) (λ name_length rest.
    followed_by (word_at rest) (λ size rest.
    followed_by (parted_at name_length rest) (λ name rest.
    followed_by (parted_at size rest) (λ bytes rest. Some ((name, bytes), rest)))))

-- ---- as a folder

-- a folder has a file with these bytes, if there are any
abbrev pub IsThere : Contents → File → Type 0
IsThere c f = IfSome f.bytes (λ bytes. c f.name ≡ Some bytes)

-- it has each of some
abbrev pub AreThere : Contents → List File → Type 0
AreThere c fs = All (IsThere c) fs
