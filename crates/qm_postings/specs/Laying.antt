-- The arrays of some rows, laid end to end: the range of each begins where those before it end.
use Rattle.std.specs.Prelude.{◌≡◌, ℕ, ◌+◌, List, [], ◌∷◌, ◌++◌, Option, length}
use Rattle.std.specs.List.{flat_map}
use Rattle.qm_docset.specs.declared.alive_bitset.AliveBitSet.{AliveBitSet}
use Rattle.qm_schema.specs.Schema.{FieldFacts}
use Rattle.qm_postings.specs.Kept.{HavePositions, IsIndex, PostingsRange, greatest}
use Rattle.qm_postings.specs.Reading.{Reader, reader_of_arrays}
use Rattle.qm_postings.specs.Rows.{Row, rows_in}
use Rattle.qm_postings.specs.declared.index_arrays.IndexArrays.{IndexArrays}

-- the range of a row, from a place of the postings and a place of the positions on
abbrev pub range_of : ℕ → ℕ → Row → PostingsRange
range_of start positions_start r = record {
  term = r.term;
  start = start;
  count = length r.documents;
  most = greatest r.frequencies;
  positions_start = positions_start;
  positions_count = length r.positions;
}

-- the ranges of some rows
abbrev pub ranges_from : ℕ → ℕ → List Row → List PostingsRange
ranges_from start positions_start [] = []
ranges_from start positions_start (r ∷ rows) =
    range_of start positions_start r ∷ ranges_from (start + length r.documents) (positions_start + length r.positions) rows

-- the documents, the frequencies and the positions of some rows
abbrev pub all_documents : List Row → List ℕ
all_documents rows = flat_map (λ r. r.documents) rows

abbrev pub all_frequencies : List Row → List ℕ
all_frequencies rows = flat_map (λ r. r.frequencies) rows

abbrev pub all_positions : List Row → List ℕ
all_positions rows = flat_map (λ r. r.positions) rows

-- these ranges and arrays are those of the rows
pub record AreLaidEndToEnd (rows : List Row) (ranges : List PostingsRange) (ds fs ps : List ℕ) : Type 0 where
  pub ranges_are : ranges ≡ ranges_from 0 0 rows
  pub documents_are : ds ≡ all_documents rows
  pub frequencies_are : fs ≡ all_frequencies rows
  pub positions_are : ps ≡ all_positions rows

-- the arrays have one row more, behind the others
pub record IsRowBehind (r : Row) (ranges : List PostingsRange) (ds fs ps : List ℕ)
    (ranges_after : List PostingsRange) (ds_after fs_after ps_after : List ℕ) : Type 0 where
  pub range : ranges_after ≡ ranges ++ range_of (length ds) (length ps) r ∷ []
  pub documents : ds_after ≡ ds ++ r.documents
  pub frequencies : fs_after ≡ fs ++ r.frequencies
  pub positions : ps_after ≡ ps ++ r.positions

-- ---- in the arrays of an index

-- the arrays are those of the rows
abbrev pub AreArraysOf : List Row → IndexArrays → Type 0
AreArraysOf rows a = AreLaidEndToEnd rows a.terms.items a.documents.items a.frequencies a.positions.items

-- the rows that the ranges show
abbrev pub rows_of : IndexArrays → List Row
rows_of a = rows_in a.terms.items a.documents.items a.frequencies a.positions.items

-- they have the same in them, whatever room there is
pub record HaveSameItems (before after : IndexArrays) : Type 0 where
  pub terms : after.terms.items ≡ before.terms.items
  pub documents : after.documents.items ≡ before.documents.items
  pub frequencies : after.frequencies ≡ before.frequencies
  pub positions : after.positions.items ≡ before.positions.items

-- they have these more, behind the others
pub record HaveMore (xs ys zs : List ℕ) (before after : IndexArrays) : Type 0 where
  pub terms : after.terms.items ≡ before.terms.items
  pub documents : after.documents.items ≡ before.documents.items ++ xs
  pub frequencies : after.frequencies ≡ before.frequencies ++ ys
  pub positions : after.positions.items ≡ before.positions.items ++ zs

-- they are an index of so many documents
abbrev pub AreIndex : ℕ → IndexArrays → Type 0
AreIndex count a = IsIndex count a.terms.items a.documents.items a.frequencies

-- their positions are as the fields keep them
abbrev pub ArePositioned : List FieldFacts → IndexArrays → Type 0
ArePositioned schema a = HavePositions schema a.terms.items a.documents.items a.frequencies a.positions.items

-- the reader that they make, by the set of alive documents
abbrev pub reader_of : List FieldFacts → ℕ → IndexArrays → List (List ℕ) → Option AliveBitSet → ℕ → Reader
reader_of schema block_len a columns alive count =
    reader_of_arrays schema block_len a.terms.items a.documents.items a.frequencies a.positions.items columns alive count
