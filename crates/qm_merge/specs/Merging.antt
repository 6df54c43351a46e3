-- The segment of the documents of two, and a segment without its deleted documents.
use Rattle.std.specs.Prelude.{◌≡◌, Bool, ℕ, ◌+◌, ◌-◌, ◌<◌, if◌then◌else◌, [], ◌++◌, length, map, nat_lt, slice_index_or}
use Rattle.qm_docset.specs.declared.numbers.TheConstants.{TERMINATED}
use Rattle.qm_postings.specs.Segment.{Segment, alive_documents, is_deleted, no_document}

-- The segment of the documents of one segment, and of those of another behind them, with the fields and the blocks of
-- the first. Deleted are those that were.
abbrev pub joined : Segment → Segment → Segment
joined s t = record {
  schema = s.schema;
  block_len = s.block_len;
  documents = s.documents ++ t.documents;
  deleted = s.deleted ++ map (λ d. length s.documents + d) t.deleted;
}

-- the segment of the documents that were not deleted, in their order, numbered from 0 up
abbrev pub alive_only : Segment → Segment
alive_only s = record {
  schema = s.schema;
  block_len = s.block_len;
  documents = map (λ d. slice_index_or s.documents d no_document) (alive_documents s);
  deleted = [];
}

-- whether a document was deleted in the first of two segments, or behind its documents in the second
abbrev pub was_deleted : Segment → Segment → ℕ → Bool
was_deleted s t d = if nat_lt d (length s.documents) then is_deleted s d else is_deleted t (d - length s.documents)

-- two segments of the same fields, with blocks of the same length
pub record AreAlike (s t : Segment) : Type 0 where
  pub schema : s.schema ≡ t.schema
  pub block_len : s.block_len ≡ t.block_len

-- two of them that have more documents together than a segment may have
pub record AreTooMany (s t : Segment) : Type 0 where
  pub alike : AreAlike s t
  pub more : TERMINATED < length s.documents + length t.documents
