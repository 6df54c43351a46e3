-- The documents of an open segment, and what a segment is made of them.
use Rattle.std.specs.Prelude.{◌≡◌, ℕ, zero, suc, Bool, false, true, List, [], ◌∷◌, length, map, slice_index_or}
use Rattle.qm_docset.specs.Members.{members_between}
use Rattle.qm_postings.specs.Document.{Draft}
use Rattle.qm_postings.specs.Segment.{Document, IsGood, Segment, document_of}
use Rattle.qm_schema.specs.Schema.{FieldFacts}
use Rattle.qm_schema.specs.declared.error.QueryError.{QueryError}
use Rattle.qm_schema.specs.declared.error.QueryError.TheVariants.{BadDocument, Memory, TooManyDocuments}
use Rattle.qm_index.specs.declared.open_document.OpenDocument.{OpenDocument}

-- what a segment with this schema keeps of a document
abbrev pub kept_of : List FieldFacts → OpenDocument → Document
kept_of schema d = document_of schema d.given

-- the documents, where that of this number is marked as deleted too
abbrev pub mark : List OpenDocument → ℕ → List OpenDocument
mark [] d = []
mark (x ∷ xs) zero = record { given = x.given; is_deleted = true } ∷ xs
mark (x ∷ xs) (suc d) = x ∷ mark xs d

-- whether the document of this number is marked as deleted
abbrev pub is_marked : List OpenDocument → ℕ → Bool
is_marked documents d = slice_index_or (map (λ x. x.is_deleted) documents) d false

-- the numbers of the marked documents, ascending
abbrev pub marked : List OpenDocument → List ℕ
marked documents = members_between (is_marked documents) 0 (length documents)

-- the segment of these documents, none of which is deleted
abbrev pub undeleted : List FieldFacts → ℕ → List OpenDocument → Segment
undeleted schema block_len documents =
    record { schema = schema; block_len = block_len; documents = map (kept_of schema) documents; deleted = [] }

-- the segment of these documents, of which the marked ones are deleted
abbrev pub segment_of : List FieldFacts → ℕ → List OpenDocument → Segment
segment_of schema block_len documents =
    record { schema = schema; block_len = block_len; documents = map (kept_of schema) documents; deleted = marked documents }

-- a segment with this schema does not take a document
abbrev pub IsBadDraft : List FieldFacts → Draft → Type 0
IsBadDraft schema draft = ¬ IsGood schema draft

-- why a segment may refuse a document
abbrev pub IsDocumentRefusal : Segment → Draft → QueryError → Type 0
IsDocumentRefusal segment draft Memory = Unit {0}
IsDocumentRefusal segment draft TooManyDocuments = length segment.documents ≡ 2147483647
IsDocumentRefusal segment draft BadDocument = IsBadDraft segment.schema draft
IsDocumentRefusal segment draft error = ⊥
