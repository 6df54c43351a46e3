-- The first bytes of a file of an index: eight that tell what kind it is, and the number of its version, 1.
use Rattle.std.specs.Prelude.{ℕ, ◌==◌, nat_eq, nat_lt, not, if◌then◌else◌, List, ◌++◌, Result, Ok, Err, drop, length, take}
use Rattle.std.specs.Int.{w64, from_le_bytes, to_le_bytes}
use Rattle.std.specs.Cmp.Lexicographic.{pointwise}
use Rattle.qm_store.specs.declared.store_error.StoreError.{StoreError}
use Rattle.qm_store.specs.declared.store_error.StoreError.TheVariants.{OtherFile, OtherVersion}

-- the first bytes of a file of a kind
abbrev pub head_bytes : List ℕ → List ℕ
head_bytes kind = kind ++ to_le_bytes w64 1

-- a file, where its first sixteen bytes are those of a file of a kind
abbrev pub headed_by : List ℕ → List ℕ → List ℕ → Result (List ℕ) StoreError
headed_by kind head file =
    if not (pointwise nat_eq (take 8 head) kind) then Err OtherFile else if from_le_bytes w64 (drop 8 head) == 1 then Ok file else Err OtherVersion

-- a file, where it begins as one of a kind does
abbrev pub headed_as : List ℕ → List ℕ → Result (List ℕ) StoreError
headed_as kind file = if nat_lt (length file) 16 then Err OtherFile else headed_by kind (take 16 file) file
