-- The rows and the columns of a segment without its deleted documents.
use Rattle.std.specs.Prelude.{ℕ, List, [], ◌∷◌, ◌++◌, Option, None, Some, drop, filter, if◌then◌else◌, is_some, length, map, nat_lt, slice_index, slice_index_or, take}
use Rattle.std.specs.List.{range_with_len}
use Rattle.std.specs.Option.{option_to_list}
use Rattle.qm_docset.specs.Members.{members_between}
use Rattle.qm_postings.specs.Rows.{Row}
use Rattle.qm_postings.specs.Segment.{Segment, alive_documents, is_alive, keeps_lengths, length_id}

-- the new number of a document, which is how many alive ones stand before it; none where it was deleted
abbrev pub new_number : Segment → ℕ → Option ℕ
new_number s d = if is_alive s d then Some (length (members_between (is_alive s) 0 d)) else None

-- those of all documents
abbrev pub new_numbers : Segment → List (Option ℕ)
new_numbers s = map (new_number s) (range_with_len 0 (length s.documents))

-- ---- by a table of new numbers

-- the new number of a document there, and none where it has none
abbrev pub number_in : List (Option ℕ) → ℕ → Option ℕ
number_in numbers d = slice_index_or numbers d None

-- the new numbers of some documents
abbrev pub documents_left : List (Option ℕ) → List ℕ → List ℕ
documents_left numbers [] = []
documents_left numbers (d ∷ ds) = option_to_list (number_in numbers d) ++ documents_left numbers ds

-- the frequencies of those that have one
abbrev pub frequencies_left : List (Option ℕ) → List ℕ → List ℕ → List ℕ
frequencies_left numbers [] fs = []
frequencies_left numbers (d ∷ ds) [] = []
frequencies_left numbers (d ∷ ds) (f ∷ fs) =
    if is_some (number_in numbers d) then f ∷ frequencies_left numbers ds fs else frequencies_left numbers ds fs

-- their positions, as many for each as its frequency says
abbrev pub positions_left : List (Option ℕ) → List ℕ → List ℕ → List ℕ → List ℕ
positions_left numbers [] fs ps = []
positions_left numbers (d ∷ ds) [] ps = []
positions_left numbers (d ∷ ds) (f ∷ fs) ps =
    if is_some (number_in numbers d) then take f ps ++ positions_left numbers ds fs (drop f ps) else positions_left numbers ds fs (drop f ps)

-- the postings of a row that are left, with new numbers
abbrev pub row_left : List (Option ℕ) → Row → Row
row_left numbers r = record {
  term = r.term;
  documents = documents_left numbers r.documents;
  frequencies = frequencies_left numbers r.documents r.frequencies;
  positions = positions_left numbers r.documents r.frequencies r.positions;
}

-- a row, and behind its postings what is left of those of another, without their positions
abbrev pub row_with_left : List (Option ℕ) → Row → Row → Row
row_with_left numbers row r = record {
  term = row.term;
  documents = row.documents ++ documents_left numbers r.documents;
  frequencies = row.frequencies ++ frequencies_left numbers r.documents r.frequencies;
  positions = row.positions;
}

-- the rows that have a posting left
abbrev pub rows_left : List (Option ℕ) → List Row → List Row
rows_left numbers rows = filter (λ r. nat_lt 0 (length r.documents)) (map (row_left numbers) rows)

-- ---- columns

-- the length ids of the documents that have a new number, of those of all documents, or of none
abbrev pub ids_left : List (Option ℕ) → List ℕ → List ℕ
ids_left numbers ids = map (slice_index ids) (filter (λ d. is_some (number_in numbers d)) (range_with_len 0 (length ids)))

-- the length ids of a field in the documents that were not deleted, where it keeps them, and else none
abbrev pub alive_column : Segment → ℕ → List ℕ
alive_column s field = if keeps_lengths s.schema field then map (length_id s field) (alive_documents s) else []

-- a column for each field
abbrev pub alive_columns : Segment → List (List ℕ)
alive_columns s = map (alive_column s) (range_with_len 0 (length s.schema))
