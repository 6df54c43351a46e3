-- The rows and the columns of two segments, joined.
use Rattle.std.specs.Prelude.{ℕ, ◌+◌, List, [], ◌∷◌, ◌++◌, length, map}
use Rattle.std.specs.List.{range_with_len}
use Rattle.std.specs.Ordering.{match_ordering}
use Rattle.qm_schema.specs.Term.{term_cmp}
use Rattle.qm_postings.specs.Reading.{Reader}
use Rattle.qm_postings.specs.Rows.{Row, column_of}
use Rattle.qm_postings.specs.Segment.{Segment}

-- a row, in a segment that has so many documents before its own
abbrev pub row_behind : ℕ → Row → Row
row_behind n r = record { term = r.term; documents = map (λ d. n + d) r.documents; frequencies = r.frequencies; positions = r.positions }

-- the postings of one row, and behind them those of another of the same term
abbrev pub row_of_both : Row → Row → Row
row_of_both r u = record {
  term = r.term;
  documents = r.documents ++ u.documents;
  frequencies = r.frequencies ++ u.frequencies;
  positions = r.positions ++ u.positions;
}

-- A row with the rest of its list, joined with the rows of another list, where `with_rest` joins the rest with some of
-- those.
abbrev pub with_row : Row → List Row → (List Row → List Row) → List Row → List Row
with_row r rest with_rest [] = r ∷ rest
with_row r rest with_rest (u ∷ us) =
    match_ordering (term_cmp r.term u.term)
    (r ∷ with_rest (u ∷ us))
    (row_of_both r u ∷ with_rest us)
    (u ∷ with_row r rest with_rest us)

-- The rows of two lists, both in the terms' order, in that order. A term that both have has one row, of both.
abbrev pub joined_rows : List Row → List Row → List Row
joined_rows [] us = us
joined_rows (r ∷ rs) us = with_row r rs (joined_rows rs) us

-- The rows of two segments, those of the second of documents that come behind those of the first.
abbrev pub rows_of_both : Reader → Reader → List Row
rows_of_both r q = joined_rows r.rows (map (row_behind (length r.segment.documents)) q.rows)

-- the length ids of a field in the documents of one segment, and behind them in those of another
abbrev pub column_of_both : Segment → Segment → ℕ → List ℕ
column_of_both s t field = column_of s field ++ column_of t field

-- a column for each field
abbrev pub columns_of_both : Segment → Segment → List (List ℕ)
columns_of_both s t = map (column_of_both s t) (range_with_len 0 (length s.schema))
