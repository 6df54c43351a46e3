-- What an index holds: its segments, of which the last is open, and what its searcher says of words.
use Rattle.std.specs.Prelude.{◌≡◌, ◌<◌, ◌≤◌, ◌+◌, ℕ, Bool, true, false, List, [], ◌∷◌, ◌++◌, drop, length, take, vec_len}
use Rattle.qm_postings.specs.Document.{Draft}
use Rattle.qm_postings.specs.Reading.{Reader}
use Rattle.qm_postings.specs.Segment.{Segment, document_of, empty_segment, with_deleted, with_document}
use Rattle.qm_postings.specs.Statistics.{Searched, with_segments}
use Rattle.qm_schema.specs.Schema.{FieldFacts}
use Rattle.qm_schema.specs.declared.error.QueryError.{QueryError}
use Rattle.qm_schema.specs.declared.error.QueryError.TheVariants.{BadBlockLength, BadNorms, Memory, TooManySegments}
use Rattle.qm_index.specs.Numbers.{count_of, deleted_among}
use Rattle.qm_index.specs.OpenDocuments.{segment_of}
use Rattle.qm_index.specs.Parts.{AreParts, segments_of}
use Rattle.qm_index.specs.declared.index.Index.{Index}

-- what an index holds: the segments that were ended, in order, and the one that takes documents
pub record Indexed : Type 0 where
  -- those that were ended, in order
  pub ended : List Segment
  -- the one that takes documents
  pub current : Segment

-- that of an `Index`
abbrev pub indexed : Index → Indexed
indexed i = record {
  ended = segments_of (take i.ended i.searcher.segments);
  current = segment_of i.searcher.schema i.block_len i.documents.items;
}

-- what the searcher says of words and lengths, whatever its segments are
abbrev pub statistics : Index → Searched
statistics i = with_segments i.searcher []

-- all segments, the open one last
abbrev pub all_segments : Indexed → List Segment
all_segments s = s.ended ++ s.current ∷ []

-- no segment was ended, and the open one has no document
abbrev pub empty_index : List FieldFacts → ℕ → Indexed
empty_index schema block_len = record { ended = []; current = empty_segment schema block_len }

-- the segments of a searcher were ended, and the open one has no document
abbrev pub index_of_segments : Searched → ℕ → Indexed
index_of_segments s block_len = record { ended = segments_of s.segments; current = empty_segment s.schema block_len }

-- with one document more
abbrev pub with_document_of : Indexed → Draft → Indexed
with_document_of s draft = record { ended = s.ended; current = with_document s.current (document_of s.current.schema draft) }

-- with the open segment ended, and another opened
abbrev pub with_segment_ended : Indexed → Indexed
with_segment_ended s = record { ended = all_segments s; current = empty_segment s.current.schema s.current.block_len }

-- with a document of the open segment deleted
abbrev pub with_open_deleted : Indexed → ℕ → Indexed
with_open_deleted s place = record { ended = s.ended; current = with_deleted s.current place }

-- whether there is a document of a number, and what is left: that it is deleted, or all as before
abbrev pub Deletes : ℕ → Indexed → Bool → Indexed → Type 0
Deletes number s true t = (number < count_of (all_segments s)) × (all_segments t ≡ deleted_among (all_segments s) number)
Deletes number s false t = (count_of (all_segments s) ≤ number) × (t ≡ s)

-- the parts of the open segment
abbrev pub open_parts : Index → List Segment
open_parts i = segments_of (drop i.ended i.searcher.segments)

-- all documents of the open segment are in its parts
abbrev pub IsRefreshed : Index → Type 0
IsRefreshed i = i.built ≡ vec_len i.documents

-- the open segment has one part at most
abbrev pub IsMerged : Index → Type 0
IsMerged i = length i.searcher.segments ≤ i.ended + 1

-- nothing of it was saved
abbrev pub IsUnsaved : Index → Type 0
IsUnsaved i = i.saved.segments.items ≡ []

-- As many documents are built, in as many parts.
pub record IsAsBuilt (before after : Index) : Type 0 where
  pub documents : vec_len after.documents ≡ vec_len before.documents
  pub built : after.built ≡ before.built
  pub ended : after.ended ≡ before.ended
  pub ended_documents : after.ended_documents ≡ before.ended_documents
  pub segments : length after.searcher.segments ≡ length before.searcher.segments

-- The readers of all segments, of which the open one is in parts.
pub record AreSearched (s : Indexed) (readers : List Reader) : Type 0 where
  pub parts : List Segment
  pub all : segments_of readers ≡ s.ended ++ parts
  pub of_current : AreParts s.current parts

-- The same, of which the open one is in one part at most.
pub record AreMerged (s : Indexed) (readers : List Reader) : Type 0 where
  pub searched : AreSearched s readers
  pub one : length searched.parts < 2

-- why an index may not be made
abbrev pub IsIndexRefusal : QueryError → Type 0
IsIndexRefusal Memory = Unit {0}
IsIndexRefusal BadBlockLength = Unit {0}
IsIndexRefusal BadNorms = Unit {0}
IsIndexRefusal error = ⊥

-- blocks may be so long, but a searcher takes no segment beside these
pub record IsFull (block_len : ℕ) (segments : List Reader) : Type 0 where
  pub some : 0 < block_len
  pub few : block_len ≤ 128
  pub full : 4294967295 ≤ length segments

-- why one may not be made of segments
abbrev pub IsSegmentsRefusal : QueryError → Type 0
IsSegmentsRefusal Memory = Unit {0}
IsSegmentsRefusal BadBlockLength = Unit {0}
IsSegmentsRefusal TooManySegments = Unit {0}
IsSegmentsRefusal error = ⊥
