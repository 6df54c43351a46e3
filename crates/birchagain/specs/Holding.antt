-- How many documents hold a term.
use Rattle.std.specs.Prelude.{ℕ, List, length}
use Rattle.std.specs.List.{sum_by}
use Rattle.qm_postings.specs.Segment.{Segment, holders}
use Rattle.qm_schema.specs.Term.{TermKey}

-- how many documents of a segment hold it, deleted ones too
abbrev pub holders_in : TermKey → Segment → ℕ
holders_in term segment = length (holders segment term)

-- how many documents of some segments do
abbrev pub holder_count : TermKey → List Segment → ℕ
holder_count term segments = sum_by (holders_in term) segments
