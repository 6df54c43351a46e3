-- What a query's tree lists over several segments: documents are numbered over all of them, in order.
use Rattle.std.specs.Prelude.{ℕ, ℤ, ◌+◌, Bool, true, false, List, [], ◌∷◌, ◌++◌, Option, None, Some, length, map, pos}
use Rattle.qm_postings.specs.Segment.{Segment}
use Rattle.qm_weight.specs.Tree.{Tree, matching, score}

-- what a document scores that the tree matches, where scores are wanted
abbrev pub wanted_score : Bool → Tree → Segment → ℕ → Option ℤ
wanted_score false tree segment d = None
wanted_score true tree segment d = Some (pos (score tree 1 segment d))

-- the documents of a segment that the tree matches, ascending, numbered from that of its first document on,
-- and with their scores where these are wanted
abbrev pub listed : Bool → Tree → ℕ → Segment → List (ℕ × Option ℤ)
listed scored tree first segment = map (λ d. (first + d, wanted_score scored tree segment d)) (matching tree segment)

-- what the tree lists, from the number of the first document of the first segment on
abbrev pub listed_from : Bool → Tree → ℕ → List Segment → List (ℕ × Option ℤ)
listed_from scored tree first [] = []
listed_from scored tree first (s ∷ ss) = listed scored tree first s ++ listed_from scored tree (first + length s.documents) ss

-- what it lists in them from 0 on
abbrev pub all_listed : Bool → Tree → List Segment → List (ℕ × Option ℤ)
all_listed scored tree segments = listed_from scored tree 0 segments
