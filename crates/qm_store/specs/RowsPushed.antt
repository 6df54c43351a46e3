-- What a reading of a row leaves of the rows that are put together.
use denote.Ref.{Bor}
use Rattle.std.specs.Prelude.{◌≡◌, ◌++◌, ◌∷◌, [], Bool, List, None, Option, Some, ℕ, if◌then◌else◌, option_map}
use Rattle.qm_postings.specs.Rows.{Row}
use Rattle.qm_postings.specs.RowsSoFar.{RowsSoFar}
use Rattle.qm_store.specs.RowBytes.{Postings, behind_both, in_front_of_all}

-- what was read, if it was
abbrev pub if_read : {X : Type 0} → Bool → X → Option X
if_read is_read x = if is_read then Some x else None

-- rows, and one more behind them, if there is one
abbrev pub with_found : List Row → Option Row → Option (List Row)
with_found rows found = option_map (λ row. rows ++ row ∷ []) found

-- the rows, and the positions of the one that was begun
pub record HaveSamePositions (old new : RowsSoFar) : Type 0 where
  pub rows : new.rows ≡ old.rows
  pub positions : new.positions ≡ old.positions

-- the rows, and the postings of the one that was begun
pub record HaveSamePostings (old new : RowsSoFar) : Type 0 where
  pub rows : new.rows ≡ old.rows
  pub documents : new.documents ≡ old.documents
  pub frequencies : new.frequencies ≡ old.frequencies

-- the postings that were found stand behind those of before, and these bytes are left
abbrev pub AddsPostings : RowsSoFar → RowsSoFar → Option (Bor (List ℕ)) → Option Postings → Type 0
AddsPostings old new left found =
    option_map (λ rest. ((new.documents, new.frequencies), rest.now)) left ≡ behind_both old.documents old.frequencies found

-- the same of positions
abbrev pub AddsPositions : RowsSoFar → RowsSoFar → Option (Bor (List ℕ)) → Option (List ℕ × List ℕ) → Type 0
AddsPositions old new left found = option_map (λ rest. (new.positions, rest.now)) left ≡ in_front_of_all old.positions found
