-- What a pruned run lists over several segments, where each call answers its score: of the documents that
-- match those that score above the threshold, which is the score of the last one then. Each segment begins
-- at the same threshold.
use Rattle.std.specs.Prelude.{ℕ, ℤ, ◌+◌, true, if◌then◌else◌, int_lt, List, [], ◌∷◌, ◌++◌, Option, None, Some, length, pos}
use Rattle.qm_docset.specs.Entry.{Entry}
use Rattle.qm_postings.specs.Segment.{Segment}
use Rattle.qm_script.specs.AllSegments.{listed}
use Rattle.qm_weight.specs.Tree.{Tree}

-- the items that score above the threshold, which is then their score
abbrev pub rising : ℤ → List (ℕ × Option ℤ) → List (ℕ × Option ℤ)
rising threshold [] = []
rising threshold ((n, None) ∷ items) = rising threshold items
rising threshold ((n, Some score) ∷ items) = if int_lt threshold score then (n, Some score) ∷ rising score items else rising threshold items

-- a document with its score, as an item of a listing
abbrev pub entry_item : Entry → ℕ × Option ℤ
entry_item e = (e.document, Some (pos e.score))

-- what is listed from the number of the first document of the first segment on
abbrev pub pruned_from : ℤ → Tree → ℕ → List Segment → List (ℕ × Option ℤ)
pruned_from threshold tree first [] = []
pruned_from threshold tree first (s ∷ ss) = rising threshold (listed true tree first s) ++ pruned_from threshold tree (first + length s.documents) ss

-- over all segments of a script
abbrev pub all_pruned : ℤ → Tree → List Segment → List (ℕ × Option ℤ)
all_pruned threshold tree segments = pruned_from threshold tree 0 segments

-- the threshold that a run leaves behind what it lists: the score of the last, or the one that it began at where it
-- lists nothing
abbrev pub threshold_after : ℤ → List (ℕ × Option ℤ) → ℤ
threshold_after threshold [] = threshold
threshold_after threshold ((n, None) ∷ items) = threshold_after threshold items
threshold_after threshold ((n, Some score) ∷ items) = threshold_after score items

-- what is listed of a segment that is kept in parts, from the number of its first document on: each part goes on
-- at the threshold that the one before it left
abbrev pub parts_pruned : ℤ → Tree → ℕ → List Segment → List (ℕ × Option ℤ)
parts_pruned threshold tree first [] = []
parts_pruned threshold tree first (p ∷ ps) =
    let found = rising threshold (listed true tree first p) in
    found ++ parts_pruned (threshold_after threshold found) tree (first + length p.documents) ps
