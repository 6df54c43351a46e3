-- Rows that are put together, one behind the other, posting by posting.
use Rattle.std.specs.Prelude.{◌≡◌, ◌⊎◌, ℕ, ◌≤◌, List, [], ◌∷◌, ◌++◌, All, drop, length, take}
use Rattle.std.proofs.Common.{refl}
use Rattle.std.specs.Coded.{Coded, code_by, coded×, coded_list, coded_ℕ}
use Rattle.qm_schema.specs.Term.{TermKey}
use Rattle.qm_postings.specs.Kept.{PostingsRange}
use Rattle.qm_postings.specs.Laying.{AreLaidEndToEnd}
use Rattle.qm_postings.specs.Rows.{ArePlaces, Row, row_code, rows_in}
use Rattle.qm_postings.specs.Segment.{AscendFrom}

-- the rows that were ended, and what was pushed since
pub record RowsSoFar : Type 0 where
  pub rows : List Row
  pub documents : List ℕ
  pub frequencies : List ℕ
  pub positions : List ℕ

abbrev pub so_far_code : Coded RowsSoFar
so_far_code =
    code_by (List Row × (List ℕ × (List ℕ × List ℕ))) (coded× (coded_list row_code) (coded× (coded_list coded_ℕ) (coded× (coded_list coded_ℕ) (coded_list coded_ℕ))))
    (λ b. (b.rows, (b.documents, (b.frequencies, b.positions))))
    (λ p. record { rows = p.0; documents = p.1.0; frequencies = p.1.1.0; positions = p.1.1.1 }) (λ _. refl)

-- these rows, and nothing behind them
abbrev pub begun : List Row → RowsSoFar
begun rows = record { rows = rows; documents = []; frequencies = []; positions = [] }

-- one posting more
abbrev pub with_posting : RowsSoFar → ℕ → ℕ → RowsSoFar
with_posting b d f =
    record { rows = b.rows; documents = b.documents ++ d ∷ []; frequencies = b.frequencies ++ f ∷ []; positions = b.positions }

-- one position more
abbrev pub with_position : RowsSoFar → ℕ → RowsSoFar
with_position b p = record { rows = b.rows; documents = b.documents; frequencies = b.frequencies; positions = b.positions ++ p ∷ [] }

-- what was pushed, as the row of a term
abbrev pub pushed_row : TermKey → RowsSoFar → Row
pushed_row term b = record { term = term; documents = b.documents; frequencies = b.frequencies; positions = b.positions }

-- Documents ascend, each has a frequency, and there are positions, which ascend, of each posting or of none.
pub record IsLaid (r : Row) : Type 0 where
  pub ascending : AscendFrom 0 r.documents
  pub paired : length r.frequencies ≡ length r.documents
  pub placed : (r.positions ≡ []) ⊎ ArePlaces r.frequencies r.positions

-- ---- in arrays

-- up to these places the arrays are those of the rows, laid end to end
pub record AreSoFar (rows : List Row) (ranges : List PostingsRange) (ds fs ps : List ℕ) (start positions_start : ℕ) : Type 0 where
  pub laid : AreLaidEndToEnd rows ranges (take start ds) (take start fs) (take positions_start ps)
  pub each : All IsLaid rows
  pub within : start ≤ length ds
  pub frequencies_within : start ≤ length fs
  pub positions_within : positions_start ≤ length ps

-- what such arrays show
abbrev pub shown_so_far : List PostingsRange → List ℕ → List ℕ → List ℕ → ℕ → ℕ → RowsSoFar
shown_so_far ranges ds fs ps start positions_start = record {
  rows = rows_in ranges ds fs ps;
  documents = drop start ds;
  frequencies = drop start fs;
  positions = drop positions_start ps;
}
