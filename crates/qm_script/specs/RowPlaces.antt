-- The row at a place, where there is one.
use Rattle.std.specs.Prelude.{ℕ, List, [], ◌∷◌, Option, None, Some, slice_index_or}
use Rattle.qm_postings.specs.Rows.{Row, no_row}

-- the row that stands at a place of some, and none for no place
abbrev pub rows_at : List Row → Option ℕ → List Row
rows_at rows None = []
rows_at rows (Some place) = slice_index_or rows place no_row ∷ []
