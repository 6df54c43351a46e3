-- How many of the documents that a tree matches weren't deleted.
use Rattle.std.specs.Prelude.{ℕ, List}
use Rattle.std.specs.List.{sum_by}
use Rattle.qm_postings.specs.Segment.{Segment}
use Rattle.qm_weight.specs.Counts as one
use Rattle.qm_weight.specs.Tree.{Tree}

-- how many documents of some segments it matches that weren't deleted
abbrev pub alive_in_all : Tree → List Segment → ℕ
alive_in_all tree segments = sum_by (λ s. one.alive_count tree s) segments
