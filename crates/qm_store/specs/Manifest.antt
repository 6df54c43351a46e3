-- What an index is, beside its segments, as the bytes of a file.
use Rattle.std.specs.Prelude.{◌≡◌, ℕ, ◌<◌, ◌≤◌, ◌^◌, List, [], ◌∷◌, ◌++◌, All, Option, Some, Result, length, map}
use Rattle.std.specs.FinMap.{entries}
use Rattle.std.specs.Int.{w64, to_le_bytes}
use Rattle.std.specs.List.{flat_map}
use Rattle.std.specs.List.Sorted.{IsStrictlySortedBy}
use Rattle.qm_postings.specs.Statistics.{Searched}
use Rattle.qm_schema.specs.Schema.{FieldFacts}
use Rattle.qm_schema.specs.Term.{TermKey, term_cmp}
use Rattle.qm_store.specs.Ends.{ended_by}
use Rattle.qm_store.specs.Fields.{IsField, schema_at, schema_bytes}
use Rattle.qm_store.specs.Heads.{head_bytes}
use Rattle.qm_store.specs.Items.{bytes_at, counted, counted_bytes, each_at, small_at}
use Rattle.qm_store.specs.Numbers.{number_at, spelled}
use Rattle.qm_store.specs.RowBytes.{followed_by}
use Rattle.qm_store.specs.Sealed.{body_of, sealed, told_by}
use Rattle.qm_store.specs.Weights.{IsWeight, weights_at, weights_bytes}
use Rattle.qm_store.specs.Words.{word_at}
use Rattle.qm_store.specs.declared.kept_segment.KeptSegment.{KeptSegment}
use Rattle.qm_store.specs.declared.manifest.Manifest.{Manifest}
use Rattle.qm_store.specs.declared.store_error.StoreError.{StoreError}

-- What an index is: its fields, how many postings a block has, what terms weigh, the norm of each length id, its
-- segments, and a note of the application's own.
pub record ManifestFacts : Type 0 where
  pub schema : List FieldFacts
  pub block_len : ℕ
  pub default_weight : ℕ
  pub norms : List ℕ
  pub weights : List (TermKey × ℕ)
  pub segments : List KeptSegment
  pub note : List ℕ

-- numbers of eight bytes, and a number of deleted documents of four
pub record IsKeptSegment (s : KeptSegment) : Type 0 where
  pub key : s.key < 2 ^ 64
  pub deletions : s.deletions < 2 ^ 64
  pub deleted : s.deleted ≤ 4294967295

-- what a program can write
pub record IsManifest (m : ManifestFacts) : Type 0 where
  pub fields : All IsField m.schema
  pub few_fields : length m.schema ≤ 4294967295
  pub block_len : m.block_len ≤ 4294967295
  pub default_weight : m.default_weight < 2 ^ 64
  pub norms : All (λ n. n ≤ 4294967295) m.norms
  pub norm_count : length m.norms ≡ 256
  pub weights : All IsWeight m.weights
  pub ascending : IsStrictlySortedBy term_cmp (map (λ w. w.0) m.weights)
  pub weight_count : length m.weights < 128 ^ 9
  pub segments : All IsKeptSegment m.segments
  pub segment_count : length m.segments < 128 ^ 9
  pub note : length m.note < 128 ^ 9

-- ---- written

-- the bytes of `birchman`
abbrev pub manifest_kind : List ℕ
manifest_kind = 98 ∷ 105 ∷ 114 ∷ 99 ∷ 104 ∷ 109 ∷ 97 ∷ 110 ∷ []

-- the norm of each length id
unfoldable pub norms_bytes : List ℕ → List ℕ
norms_bytes norms = flat_map spelled norms

abbrev pub segment_bytes : KeptSegment → List ℕ
segment_bytes s = to_le_bytes w64 s.key ++ (to_le_bytes w64 s.deletions ++ spelled s.deleted)

-- how many segments there are, and of each the numbers of its files, and how many documents are deleted
unfoldable pub segments_bytes : List KeptSegment → List ℕ
segments_bytes segments = counted segment_bytes segments

-- how terms score: the block length, the fields, the weight of most terms, and the norms
abbrev pub front_bytes : ManifestFacts → List ℕ
front_bytes m = spelled m.block_len ++ (schema_bytes m.schema ++ (to_le_bytes w64 m.default_weight ++ norms_bytes m.norms))

-- the weights of the others, the segments, and the note
abbrev pub back_bytes : ManifestFacts → List ℕ
back_bytes m = weights_bytes m.weights ++ (segments_bytes m.segments ++ counted_bytes m.note)

-- The file that tells what an index is. It has no key.
abbrev pub manifest_spelled : ManifestFacts → List ℕ
manifest_spelled m = sealed 0 (head_bytes manifest_kind ++ (front_bytes m ++ back_bytes m))

-- ---- read

unfoldable pub norms_at : List ℕ → Option (List ℕ × List ℕ)
norms_at bs = each_at small_at 256 bs

-- the segment that some bytes begin with, and the bytes behind it
unfoldable pub segment_at : List ℕ → Option (KeptSegment × List ℕ)
segment_at bs =
    followed_by (word_at bs) (λ key rest.
    followed_by (word_at rest) (λ deletions rest.
    followed_by (small_at rest) (λ deleted rest. Some (record { key = key; deletions = deletions; deleted = deleted }, rest))))

unfoldable pub segments_at : List ℕ → Option (List KeptSegment × List ℕ)
segments_at bs = followed_by (number_at 8 bs) (each_at segment_at)

-- what a body tells behind how terms score
abbrev pub back_at : ℕ → List FieldFacts → ℕ → List ℕ → List ℕ → Option ManifestFacts
back_at block_len schema default norms bs =
    followed_by (weights_at bs) (λ weights rest.
    followed_by (segments_at rest) (λ segments rest.
    followed_by (bytes_at rest) (λ note rest.
    ended_by (record { schema = schema; block_len = block_len; default_weight = default; norms = norms; weights = weights; segments = segments; note = note }) rest)))

-- what a body tells
abbrev pub body_at : List ℕ → Option ManifestFacts
body_at bs =
    followed_by (small_at bs) (λ block_len rest.
    followed_by (schema_at rest) (λ schema rest.
    followed_by (word_at rest) (λ default rest.
    followed_by (norms_at rest) (λ norms rest. back_at block_len schema default norms rest))))

-- What a file tells that an index is.
abbrev pub manifest_read : List ℕ → Result ManifestFacts StoreError
manifest_read file = told_by (body_of manifest_kind 0 file) body_at

-- ---- as the program has them

-- what a searcher says of terms and lengths, with segments and a note
abbrev pub facts_of : Searched → ℕ → List KeptSegment → List ℕ → ManifestFacts
facts_of s block_len segments note = record {
  schema = s.schema;
  block_len = block_len;
  default_weight = s.default_weight;
  norms = s.norms;
  weights = entries s.weights;
  segments = segments;
  note = note;
}

abbrev pub told : Manifest → ManifestFacts
told m = record {
  schema = m.schema;
  block_len = m.block_len;
  default_weight = m.default_weight;
  norms = m.norms;
  weights = m.weights.entries;
  segments = m.segments.items;
  note = m.note.items;
}
