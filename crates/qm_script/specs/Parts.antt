-- How many documents there are.
use Rattle.std.specs.Prelude.{ℕ, List, length}
use Rattle.std.specs.List.{flat_map}
use Rattle.qm_postings.specs.Segment.{Segment}

-- the number of documents of some segments
abbrev pub document_count : List Segment → ℕ
document_count segments = length (flat_map (λ s. s.documents) segments)
