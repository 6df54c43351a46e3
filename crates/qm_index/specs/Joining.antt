-- The last segments that an index has ended, joined, or without what is deleted of them.
use Rattle.std.specs.Prelude.{◌≡◌, ◌≢◌, ◌<◌, ◌+◌, ◌-◌, ◌*◌, ◌≤◌, ℕ, Bool, true, false, List, [], ◌∷◌, ◌++◌, length, map, take}
use Rattle.std.specs.List.{flat_map}
use Rattle.qm_docset.specs.declared.numbers.TheConstants.{TERMINATED}
use Rattle.qm_merge.specs.Merging.{alive_only, joined}
use Rattle.qm_postings.specs.Segment.{Document, Segment}
use Rattle.qm_schema.specs.declared.error.QueryError.{QueryError}
use Rattle.qm_schema.specs.declared.error.QueryError.TheVariants.{BadBlockLength, Memory, TooManyDocuments}
use Rattle.qm_index.specs.Indexed.{Indexed}

-- ---- the last of them

-- the last of some segments, and those before it
pub record LastOne (segments : List Segment) : Type 0 where
  pub others : List Segment
  pub last : Segment
  pub all : segments ≡ others ++ last ∷ []

-- the last two of them, and those before these
pub record LastTwo (segments : List Segment) : Type 0 where
  pub others : List Segment
  pub first : Segment
  pub second : Segment
  pub all : segments ≡ others ++ first ∷ second ∷ []

-- with other ended segments
abbrev pub with_ended : Indexed → List Segment → Indexed
with_ended s segments = record { ended = segments; current = s.current }

-- without the last of the ended segments
abbrev pub without_last : Indexed → Indexed
without_last s = with_ended s (take (length s.ended - 1) s.ended)

-- with a segment in the place of the last of them
abbrev pub with_last : Indexed → Segment → Indexed
with_last s segment = with_ended s (take (length s.ended - 1) s.ended ++ segment ∷ [])

-- ---- two joined

-- the last two of the ended segments became one, or there are no two, and all is as before
abbrev pub JoinsLast : Indexed → Bool → Indexed → Type 0
JoinsLast s true t = (it : LastTwo s.ended) × (t ≡ with_ended s (it.others ++ joined it.first it.second ∷ []))
JoinsLast s false t = (length s.ended < 2) × (t ≡ s)

-- the last two of them have blocks of different lengths
abbrev pub HasUnlikeLast : Indexed → Type 0
HasUnlikeLast s = (it : LastTwo s.ended) × (it.first.block_len ≢ it.second.block_len)

-- they could be joined, but have more documents together than a segment may have
pub record HasTooManyLast (s : Indexed) : Type 0 where
  pub last : LastTwo s.ended
  pub alike : last.first.block_len ≡ last.second.block_len
  pub more : TERMINATED < length last.first.documents + length last.second.documents

-- The one before the last of them has fewer than twice its documents, and the two can be joined.
pub record HasSmallLast (s : Indexed) : Type 0 where
  pub last : LastTwo s.ended
  pub alike : last.first.block_len ≡ last.second.block_len
  pub few : length last.first.documents + length last.second.documents ≤ TERMINATED
  pub small : length last.first.documents < 2 * length last.second.documents

-- why the last two may not be joined
abbrev pub IsJoiningRefusal : QueryError → Type 0
IsJoiningRefusal Memory = Unit {0}
IsJoiningRefusal BadBlockLength = Unit {0}
IsJoiningRefusal TooManyDocuments = Unit {0}
IsJoiningRefusal error = ⊥

-- ---- numbers over all of them

-- the documents of segments, one behind the other
abbrev pub documents_of : List Segment → List Document
documents_of segments = flat_map (λ s. s.documents) segments

-- which of these are deleted, by their numbers over all segments, where the first document has this number
abbrev pub deleted_from : ℕ → List Segment → List ℕ
deleted_from first [] = []
deleted_from first (s ∷ ss) = map (λ d. first + d) s.deleted ++ deleted_from (first + length s.documents) ss

-- Segments have the documents that others have, with the same numbers over all of them, and the same ones are deleted.
pub record HaveSameDocuments (before after : List Segment) : Type 0 where
  pub documents : documents_of after ≡ documents_of before
  pub deleted : deleted_from 0 after ≡ deleted_from 0 before

-- ---- what is deleted, left out

-- the last of the ended segments lost its deleted documents, or it has none, and all is as before
abbrev pub LeavesOut : Indexed → Bool → Indexed → Type 0
LeavesOut s true t = (it : LastOne s.ended) × (it.last.deleted ≢ []) × (t ≡ with_ended s (it.others ++ alive_only it.last ∷ []))
LeavesOut s false t = ((it : LastOne s.ended) → it.last.deleted ≡ []) × (t ≡ s)
