-- The best of the documents that a tree matches in several segments, without those that were deleted.
use Rattle.std.specs.Prelude.{ℕ, ℤ, ◌+◌, List, [], ◌∷◌, ◌++◌, Option, Some, length, map, pos, slice_index_or}
use Rattle.qm_postings.specs.Segment.{Segment}
use Rattle.qm_postings.specs.declared.address.DocAddress.{DocAddress}
use Rattle.qm_weight.specs.Best.{best}
use Rattle.qm_weight.specs.Counts.{alive_matching}
use Rattle.qm_weight.specs.Tree.{Tree, score}

-- those of a segment that match, each with its score, numbered from that of its first document on
abbrev pub alive_listed : Tree → ℕ → Segment → List (ℕ × ℤ)
alive_listed tree first segment = map (λ d. (first + d, pos (score tree 1 segment d))) (alive_matching tree segment)

-- those of several segments, from the number of the first document of the first one on
abbrev pub alive_listed_from : Tree → ℕ → List Segment → List (ℕ × ℤ)
alive_listed_from tree first [] = []
alive_listed_from tree first (s ∷ ss) = alive_listed tree first s ++ alive_listed_from tree (first + length s.documents) ss

-- their numbers over all segments, ascending
abbrev pub alive_numbers : Tree → List Segment → List ℕ
alive_numbers tree segments = map (λ i. i.0) (alive_listed_from tree 0 segments)

-- an item of a listing
abbrev pub scored_item : ℕ × ℤ → ℕ × Option ℤ
scored_item i = (i.0, Some i.1)

-- the best of them, at most so many: by score downwards, and of one score those with the least numbers
abbrev pub best_listed : ℕ → Tree → List Segment → List (ℕ × Option ℤ)
best_listed count tree segments = map scored_item (best count (alive_listed_from tree 0 segments))

-- the numbers of the segments' first documents, that of an address by these, and a document that was found as it is
-- listed
abbrev pub firsts_from : ℕ → List Segment → List ℕ
firsts_from first [] = []
firsts_from first (s ∷ ss) = first ∷ firsts_from (first + length s.documents) ss

-- a document's number over all segments, by the numbers of their first documents
abbrev pub number_at : List ℕ → DocAddress → ℕ
number_at firsts a = slice_index_or firsts a.segment_ord 0 + a.doc_id

-- an item of a listing for a document that was found
abbrev pub found_item : List ℕ → ℤ × DocAddress → ℕ × Option ℤ
found_item firsts f = (number_at firsts f.1, Some f.0)
