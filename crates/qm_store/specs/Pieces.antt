-- Pieces of a file, and their digests; and when a function returned what some bytes are.
use Rattle.std.specs.Prelude.{◌≡◌, ℕ, ◌+◌, ◌^◌, ◌<◌, ◌≤◌, ◌==◌, nat_le, if◌then◌else◌, List, ◌++◌, Option, None, Some, Result, Ok, Err, drop, length, option_and_then, option_map, take}
use Rattle.std.specs.Int.{w64, to_le_bytes}
use Rattle.std.specs.Hash.DefaultHasher.{finish, initial, write}
use Rattle.qm_store.specs.Numbers.{number_at, spelled}
use Rattle.qm_store.specs.RowBytes.{followed_by}
use Rattle.qm_store.specs.Words.{word_at}
use Rattle.qm_store.specs.declared.piece.Piece.{Piece}
use Rattle.qm_store.specs.declared.store_error.StoreError.{StoreError}
use Rattle.qm_store.specs.declared.store_error.StoreError.TheVariants.{Damaged, Failed, Memory, OtherFile, OtherVersion}

-- ---- what a function returned

-- What holds of the bytes of a file, where they are known.
abbrev pub WhereKnown : Option (List ℕ) → (List ℕ → Type 0) → Type 0
WhereKnown bytes Holds = (file : List ℕ) → bytes ≡ Some file → Holds file

-- an error tells that nothing was there to be read, or memory ran out
abbrev pub TellsOf : {Y : Type 0} → StoreError → Option Y → Type 0
TellsOf Memory found = Unit {0}
TellsOf Failed found = ⊥
TellsOf OtherFile found = ⊥
TellsOf OtherVersion found = ⊥
TellsOf Damaged found = found ≡ None

-- What was returned is what was found, and damaged where nothing was, unless memory ran out.
abbrev pub GivesSome : {X Y : Type 0} → (X → Y) → Result X StoreError → Option Y → Type 0
GivesSome view (Ok x) found = found ≡ Some (view x)
GivesSome view (Err e) found = TellsOf e found

-- What was found was put behind what was there, and damaged was returned where nothing was found, unless memory ran out.
abbrev pub AddsFound : {X Y : Type 0} → List Y → List Y → Result X StoreError → Option (List Y) → Type 0
AddsFound old new result found = GivesSome (λ _. new) result (option_map (λ more. old ++ more) found)

-- an error tells of what reading gives, or memory ran out
abbrev pub Fails : {Y : Type 0} → StoreError → Result Y StoreError → Type 0
Fails Memory read = Unit {0}
Fails Failed read = ⊥
Fails OtherFile read = read ≡ Err OtherFile
Fails OtherVersion read = read ≡ Err OtherVersion
Fails Damaged read = read ≡ Err Damaged

-- What was returned is what reading gives, unless memory ran out.
abbrev pub Gives : {X Y : Type 0} → (X → Y) → Result X StoreError → Result Y StoreError → Type 0
Gives view (Ok x) read = read ≡ Ok (view x)
Gives view (Err e) read = Fails e read

-- A refusal of bytes that are made, so many: for want of memory, or because they are more than 2^60.
abbrev pub IsMakeRefusal : ℕ → StoreError → Type 0
IsMakeRefusal count Memory = Unit {0}
IsMakeRefusal count Failed = 2 ^ 60 < count
IsMakeRefusal count OtherFile = ⊥
IsMakeRefusal count OtherVersion = ⊥
IsMakeRefusal count Damaged = ⊥

-- A refusal of what is written: for want of memory, when nothing was, or because it can't be written.
abbrev pub IsWriteRefusal : {W : Type 0} → W → W → StoreError → Type 0
IsWriteRefusal old new Memory = new ≡ old
IsWriteRefusal old new Failed = Unit {0}
IsWriteRefusal old new OtherFile = ⊥
IsWriteRefusal old new OtherVersion = ⊥
IsWriteRefusal old new Damaged = ⊥

-- ---- pieces

-- so many bytes of a file from a place on, where they are there
abbrev pub part_at : ℕ → ℕ → List ℕ → Option (List ℕ)
part_at at count file = if nat_le (at + count) (length file) then Some (take count (drop at file)) else None

-- the digest of bytes that stand at a place of the segment of a key
unfoldable pub digest : ℕ → ℕ → List ℕ → ℕ
digest key at bs = finish (write (write (write initial (to_le_bytes w64 key)) (to_le_bytes w64 at)) bs)

-- these bytes, where their digest is this one
abbrev pub digested : ℕ → Piece → List ℕ → Option (List ℕ)
digested key p bs = if digest key p.at bs == p.digest then Some bs else None

-- The bytes of a piece in the file of a key, where they are there, and have its digest.
abbrev pub piece_in : ℕ → List ℕ → Piece → Option (List ℕ)
piece_in key file p = option_and_then (digested key p) (part_at p.at p.len file)

-- a piece of a file that is not too great: it begins, and ends, within 2^60 bytes
pub record IsInFile (p : Piece) : Type 0 where
  pub at : p.at ≤ 2 ^ 60
  pub len : p.len ≤ 2 ^ 60

-- ---- pieces as bytes

abbrev pub piece_bytes : Piece → List ℕ
piece_bytes p = spelled p.at ++ (spelled p.len ++ to_le_bytes w64 p.digest)

-- the piece that some bytes begin with the name of, and the bytes behind it
abbrev pub piece_at : List ℕ → Option (Piece × List ℕ)
piece_at bs =
    followed_by (number_at 8 bs) (λ at rest.
    followed_by (number_at 8 rest) (λ len rest.
    followed_by (word_at rest) (λ d rest. Some (record { at = at; len = len; digest = d }, rest))))
