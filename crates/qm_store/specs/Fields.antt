-- The fields of a schema as bytes: of each its name, what its postings keep, and whether it keeps lengths.
use Rattle.std.specs.Prelude.{ℕ, ◌<◌, ◌^◌, ◌==◌, Bool, true, false, IsUtf8, if◌then◌else◌, List, [], ◌∷◌, ◌++◌, Option, None, Some, length, option_map}
use Rattle.std.specs.Str.{is_utf8}
use Rattle.qm_schema.specs.Schema.{FieldFacts}
use Rattle.qm_schema.specs.declared.schema.option.IndexRecordOption.{IndexRecordOption}
use Rattle.qm_schema.specs.declared.schema.option.IndexRecordOption.TheVariants.{Basic, WithFreqs, WithFreqsAndPositions}
use Rattle.qm_store.specs.Items.{bytes_at, counted, counted_bytes, each_at, small_at}
use Rattle.qm_store.specs.RowBytes.{followed_by}

-- ---- what postings keep, and whether lengths are kept, as a byte each

abbrev pub kept_byte : Option IndexRecordOption → ℕ
kept_byte None = 0
kept_byte (Some Basic) = 1
kept_byte (Some WithFreqs) = 2
kept_byte (Some WithFreqsAndPositions) = 3

abbrev pub kept_by : ℕ → Option (Option IndexRecordOption)
kept_by b =
    if b == 0 then Some None else if b == 1 then Some (Some Basic) else
    if b == 2 then Some (Some WithFreqs) else if b == 3 then Some (Some WithFreqsAndPositions) else None

abbrev pub flag_byte : Bool → ℕ
flag_byte true = 1
flag_byte false = 0

abbrev pub flag_by : ℕ → Option Bool
flag_by b = if b == 0 then Some false else if b == 1 then Some true else None

-- what a byte says that some bytes begin with, and the bytes behind it
abbrev pub said_at : {A : Type 0} → (ℕ → Option A) → List ℕ → Option (A × List ℕ)
said_at says [] = None
said_at says (b ∷ bs) = option_map (λ x. (x, bs)) (says b)

-- ---- a field

-- a field whose name is text
pub record IsField (f : FieldFacts) : Type 0 where
  pub text : IsUtf8 f.name
  pub short : length f.name < 128 ^ 9

abbrev pub field_bytes : FieldFacts → List ℕ
field_bytes f = counted_bytes f.name ++ (kept_byte f.indexed ∷ flag_byte f.lengths ∷ [])

-- a name, where it is text
abbrev pub named_by : List ℕ → List ℕ → Option (List ℕ × List ℕ)
named_by name rest = if is_utf8 name then Some (name, rest) else None

-- the name that some bytes begin with, and the bytes behind it
abbrev pub name_at : List ℕ → Option (List ℕ × List ℕ)
name_at bs = followed_by (bytes_at bs) named_by

-- the field that some bytes begin with, and the bytes behind it
unfoldable pub field_at : List ℕ → Option (FieldFacts × List ℕ)
field_at bs =
    followed_by (name_at bs) (λ name rest.
    followed_by (said_at kept_by rest) (λ kept rest.
    followed_by (said_at flag_by rest) (λ lengths rest. Some (record { name = name; indexed = kept; lengths = lengths }, rest))))

-- ---- a schema: how many fields it has, and these

unfoldable pub schema_bytes : List FieldFacts → List ℕ
schema_bytes fields = counted field_bytes fields

unfoldable pub schema_at : List ℕ → Option (List FieldFacts × List ℕ)
schema_at bs = followed_by (small_at bs) (each_at field_at)
