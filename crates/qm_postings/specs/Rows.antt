-- The rows of a segment's terms: of each the documents that hold it, and what stands there of it. Whoever keeps a
-- segment elsewhere keeps these, and they make the segment again.
use Rattle.std.specs.Prelude.{◌≡◌, ℕ, ◌<◌, ◌≤◌, List, [], ◌∷◌, All, false, true, drop, if◌then◌else◌, length, map, take}
use Rattle.std.proofs.Common.{refl}
use Rattle.std.specs.Coded.{Coded, code_by, coded×, coded_list, coded_ℕ}
use Rattle.std.specs.List.{flat_map, range_with_len}
use Rattle.std.specs.List.Sorted.{IsStrictlySortedBy}
use Rattle.qm_docset.specs.declared.numbers.TheConstants.{TERMINATED}
use Rattle.qm_schema.specs.Schema.{FieldFacts}
use Rattle.qm_schema.specs.Term.{TermKey, term_cmp, term_code}
use Rattle.qm_postings.specs.Kept.{AreColumns, Posted, PostingsRange, in_range, positions_in, posted_together, segment_from}
use Rattle.qm_postings.specs.Numbering.{no_term}
use Rattle.qm_postings.specs.Positions.{ArePositions}
use Rattle.qm_postings.specs.Segment.{AscendFrom, Segment, is_indexed, keeps_lengths, keeps_positions, length_id}

-- A term, the documents that hold it, how often it stands in each, and its positions in all of them, end to end.
pub record Row : Type 0 where
  pub term : TermKey
  pub documents : List ℕ
  pub frequencies : List ℕ
  pub positions : List ℕ

abbrev pub row_code : Coded Row
row_code =
    code_by (TermKey × (List ℕ × (List ℕ × List ℕ))) (coded× term_code (coded× (coded_list coded_ℕ) (coded× (coded_list coded_ℕ) (coded_list coded_ℕ))))
    (λ r. (r.term, (r.documents, (r.frequencies, r.positions))))
    (λ p. record { term = p.0; documents = p.1.0; frequencies = p.1.1.0; positions = p.1.1.1 }) (λ _. refl)

abbrev pub no_row : Row
no_row = record { term = no_term; documents = []; frequencies = []; positions = [] }

-- the postings of a row
abbrev pub posted : Row → List Posted
posted r = posted_together r.term r.documents r.frequencies r.positions

-- those of several rows, row by row
abbrev pub all_posted : List Row → List Posted
all_posted rows = flat_map posted rows

-- the segment of some rows, with so many documents, none of them deleted, and these columns of length ids
abbrev pub segment_of_rows : List FieldFacts → ℕ → List Row → List (List ℕ) → ℕ → Segment
segment_of_rows schema block_len rows columns count = segment_from schema block_len (all_posted rows) columns count

-- Each posting has as many positions as its frequency says, which ascend; and there are no more.
abbrev pub ArePlaces : List ℕ → List ℕ → Type 0
ArePlaces [] ps = ps ≡ []
ArePlaces (f ∷ fs) ps = (length (take f ps) ≡ f) × ArePositions (take f ps) × ArePlaces fs (drop f ps)

-- A row that a segment of so many documents may keep: its field is indexed, it has a posting, documents ascend and
-- are below that number, each holds the term, and positions are there where the field keeps them.
pub record IsRow (schema : List FieldFacts) (count : ℕ) (r : Row) : Type 0 where
  pub indexed : is_indexed schema r.term.field ≡ true
  pub some : 0 < length r.documents
  pub ascending : AscendFrom 0 r.documents
  pub below : All (λ d. d < count) r.documents
  pub paired : length r.frequencies ≡ length r.documents
  pub held : All (λ f. 0 < f) r.frequencies
  pub places : keeps_positions schema r.term.field ≡ true → ArePlaces r.frequencies r.positions
  pub no_places : keeps_positions schema r.term.field ≡ false → r.positions ≡ []

-- rows of different terms, in the terms' order
pub record AreRows (schema : List FieldFacts) (count : ℕ) (rows : List Row) : Type 0 where
  pub terms : IsStrictlySortedBy term_cmp (map (λ r. r.term) rows)
  pub each : All (IsRow schema count) rows

-- What makes a segment: blocks of 1 to 128 postings, no more documents than may be, a column of length ids for each
-- field, and rows.
pub record MakeSegment (schema : List FieldFacts) (block_len count : ℕ) (columns : List (List ℕ)) (rows : List Row) : Type 0 where
  pub cut : 0 < block_len
  pub short : block_len ≤ 128
  pub few : count ≤ TERMINATED
  pub lengths : AreColumns schema count columns
  pub are_rows : AreRows schema count rows

-- the length ids of a field in all documents, where it keeps them, and else none
abbrev pub column_of : Segment → ℕ → List ℕ
column_of s field = if keeps_lengths s.schema field then map (length_id s field) (range_with_len 0 (length s.documents)) else []

-- a column for each field
abbrev pub columns_of : Segment → List (List ℕ)
columns_of s = map (column_of s) (range_with_len 0 (length s.schema))

-- ---- in a segment's arrays

-- the row of a term that has this range
abbrev pub row_in : List ℕ → List ℕ → List ℕ → PostingsRange → Row
row_in ds fs ps r = record { term = r.term; documents = in_range r ds; frequencies = in_range r fs; positions = positions_in r ps }

-- those of all terms
abbrev pub rows_in : List PostingsRange → List ℕ → List ℕ → List ℕ → List Row
rows_in ranges ds fs ps = map (row_in ds fs ps) ranges
