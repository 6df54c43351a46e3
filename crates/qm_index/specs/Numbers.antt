-- Numbers of documents over several segments, in order, from 0 up.
use Rattle.std.specs.Prelude.{◌≡◌, ◌+◌, ◌-◌, ◌<◌, ℕ, nat_lt, if◌then◌else◌, List, [], ◌∷◌, All, Some, length, slice_get, take}
use Rattle.std.specs.List.{sum_by}
use Rattle.qm_postings.specs.Reading.{Reader}
use Rattle.qm_postings.specs.Segment.{Segment, with_deleted}
use Rattle.qm_schema.specs.Schema.{FieldFacts}
use Rattle.qm_postings.specs.declared.address.DocAddress.{DocAddress}

-- how many documents segments have
abbrev pub count_of : List Segment → ℕ
count_of segments = sum_by (λ s. length s.documents) segments

-- how many those of readers have
abbrev pub document_count : List Reader → ℕ
document_count readers = sum_by (λ r. length r.segment.documents) readers

-- each of the segments of readers has these fields
abbrev pub AreOf : List FieldFacts → List Reader → Type 0
AreOf schema readers = All (λ r. r.segment.schema ≡ schema) readers

-- the numbers behind the last document of each of them, where the first of them begins at this number
abbrev pub ends_from : ℕ → List Reader → List ℕ
ends_from first [] = []
ends_from first (r ∷ rs) = (first + length r.segment.documents) ∷ ends_from (first + length r.segment.documents) rs

-- The address of the document of this number, where the first of these segments has that number.
pub record IsAddressOf (readers : List Reader) (first wanted : ℕ) (address : DocAddress) : Type 0 where
  pub place : ℕ
  pub reader : Reader
  pub segment : address.segment_ord ≡ first + place
  pub there : slice_get readers place ≡ Some reader
  pub document : address.doc_id < length reader.segment.documents
  pub number : wanted ≡ document_count (take place readers) + address.doc_id

-- there is a document at the address
pub record HasDocument (readers : List Reader) (address : DocAddress) : Type 0 where
  pub reader : Reader
  pub there : slice_get readers address.segment_ord ≡ Some reader
  pub document : address.doc_id < length reader.segment.documents

-- the segments, where the document of this number is deleted too
abbrev pub deleted_among : List Segment → ℕ → List Segment
deleted_among [] number = []
deleted_among (s ∷ ss) number =
    if nat_lt number (length s.documents) then with_deleted s number ∷ ss else s ∷ deleted_among ss (number - length s.documents)
