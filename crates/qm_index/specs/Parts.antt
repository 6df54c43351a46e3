-- A segment in parts, each a segment of its own: one after another they have its documents.
use Rattle.std.specs.Prelude.{◌≡◌, ◌+◌, ℕ, List, [], ◌∷◌, ◌++◌, drop, length, map, take}
use Rattle.qm_docset.specs.Members.{members_between}
use Rattle.qm_merge.specs.Merging.{joined}
use Rattle.qm_postings.specs.Reading.{Reader}
use Rattle.qm_postings.specs.Segment.{Segment, is_deleted}
use Rattle.qm_schema.specs.Schema.{FieldFacts}
use Rattle.qm_index.specs.OpenDocuments.{segment_of}
use Rattle.qm_index.specs.declared.open_document.OpenDocument.{OpenDocument}

-- so many documents of a segment, from that number on
abbrev pub part_of : Segment → ℕ → ℕ → Segment
part_of whole first count = record {
  schema = whole.schema;
  block_len = whole.block_len;
  documents = take count (drop first whole.documents);
  deleted = members_between (λ d. is_deleted whole (first + d)) 0 count;
}

-- Parts of a segment which have all of its documents from that number on.
abbrev pub ArePartsFrom : ℕ → Segment → List Segment → Type 0
ArePartsFrom first whole [] = first ≡ length whole.documents
ArePartsFrom first whole (p ∷ ps) =
    (p ≡ part_of whole first (length p.documents)) × ArePartsFrom (first + length p.documents) whole ps

-- segments which one after another have the documents of one, each being the `part_of` it that begins behind the one
-- before
abbrev pub AreParts : Segment → List Segment → Type 0
AreParts whole parts = ArePartsFrom 0 whole parts

-- the segments that readers read
abbrev pub segments_of : List Reader → List Segment
segments_of readers = map (λ r. r.segment) readers

-- documents cut into segments, from the first on, each of as many as the reader in its place has
abbrev pub cut : List FieldFacts → ℕ → List Reader → List OpenDocument → List Segment
cut schema block_len [] documents = []
cut schema block_len (r ∷ rs) documents =
    segment_of schema block_len (take (length r.segment.documents) documents)
    ∷ cut schema block_len rs (drop (length r.segment.documents) documents)

-- A segment is what the last two of some readers read, joined.
pub record IsLastTwoJoined (readers : List Reader) (segment : Segment) : Type 0 where
  pub others : List Reader
  pub first : Reader
  pub second : Reader
  pub all : readers ≡ others ++ first ∷ second ∷ []
  pub is : segment ≡ joined first.segment second.segment
