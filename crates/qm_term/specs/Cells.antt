-- The cells of a stretch of documents: what lists that are taken in make of each document.
use Rattle.std.specs.Prelude.{◌≡◌, ◌≢◌, ℕ, zero, suc, ℤ, ◌+◌, ◌-◌, ◌*◌, ◌<◌, ◌≤◌, ◌==◌, ◌&&◌, ◌||◌, Bool, false, not, true, nat_le, cond, List, [], ◌∷◌, length, slice_index_or}
use Rattle.std.specs.Prelude.{pos, map}
use Rattle.std.specs.List.{fold}
use Rattle.qm_docset.specs.Words.{words_have}
use Rattle.qm_combine.specs.Windowed.{scores_of as scores_in}
use Rattle.qm_term.specs.RunCounts.{one_if_above}
use Rattle.qm_term.specs.Members.{Member, lists_of, scores_of}
use Rattle.qm_term.specs.Pivot.{blockbound, bound_in, cut}
use Rattle.qm_term.specs.Runs.{Turn}
use Rattle.qm_term.specs.declared.wand.cells.Cell.{Cell}
use Rattle.qm_term.specs.declared.wand.cells.Cells.{Cells}
use Rattle.qm_docset.specs.Entry.{Entry}
use Rattle.qm_docset.specs.Exclusion.{has_document, some_has_document}
use Rattle.qm_docset.specs.Gather.{scored}

-- the lists cut to a document
abbrev pub cuts : ℕ → List Member → List Member
cuts t ms = map (cut t) ms

-- the first document that there is a cell for, and one past the last
abbrev pub cells_start : {C : Type 0} → Cells C → ℕ
cells_start w = w.start

abbrev pub cells_end : {C : Type 0} → Cells C → ℕ
cells_end w = w.start + length w.cells.items

-- the cell of a document that is not there
abbrev pub cells_clear : {C : Type 0} → Cells C → Cell C
cells_clear w = w.clear

-- whether a document is there
unfoldable pub cells_has : {C : Type 0} → Cells C → ℕ → Bool
cells_has w d = nat_le w.start d && words_have w.words.items (d - w.start)

-- the cell of a document
unfoldable pub cell_of : {C : Type 0} → Cells C → ℕ → Cell C
cell_of w d = cond (nat_le w.start d) (slice_index_or w.cells.items (d - w.start) w.clear) w.clear

-- no document is there, and each cell is clear
abbrev pub AreClear : {C : Type 0} → Cells C → Type 0
AreClear w = (d : ℕ) → (cells_has w d ≡ false) × (cell_of w d ≡ cells_clear w)

-- none of these documents is there
abbrev pub LackAll : {C : Type 0} → Cells C → ℕ → ℕ → Type 0
LackAll w low end = (d : ℕ) → low ≤ d → d < end → cells_has w d ≡ false

-- cells for the same documents
pub record AreAlike {C : Type 0} (w w' : Cells C) : Type 0 where
  pub start : cells_start w' ≡ cells_start w
  pub end : cells_end w' ≡ cells_end w
  pub clear : cells_clear w' ≡ cells_clear w

-- the first document of a word
pub record IsFirstIn {C : Type 0} (word : ℕ) (w : Cells C) (doc : ℕ) : Type 0 where
  pub has : cells_has w doc ≡ true
  pub before : LackAll w (cells_start w + 64 * word) doc
  pub below : doc < cells_start w + 64 * (word + 1)

-- a document is taken out, and this was its cell
pub record TakesOut {C : Type 0} (w : Cells C) (doc : ℕ) (taken : Cell C) (w' : Cells C) : Type 0 where
  pub cell : taken ≡ cell_of w doc
  pub has : (d : ℕ) → cells_has w' d ≡ (cells_has w d && not (d == doc))
  pub cleared : cell_of w' doc ≡ cells_clear w
  pub others : (d : ℕ) → (d == doc) ≡ false → cell_of w' d ≡ cell_of w d
  pub alike : AreAlike w w'

-- a score of a document is added, and the bound of a block that it is in
pub record Adds {C : Type 0} (step : C → ℕ → C) (doc score bound : ℕ) (w w' : Cells C) : Type 0 where
  pub has : (d : ℕ) → cells_has w' d ≡ (d == doc || cells_has w d)
  pub sum : (cell_of w' doc).bound ≡ (cell_of w doc).bound + bound
  pub state : (cell_of w' doc).state ≡ step (cell_of w doc).state score
  pub others : (d : ℕ) → d ≢ doc → cell_of w' d ≡ cell_of w d
  pub alike : AreAlike w w'

-- the documents of a list below an end are added
pub record TakesIn {C : Type 0} (step : C → ℕ → C) (end : ℕ) (m : Member) (w w' : Cells C) : Type 0 where
  pub has : (d : ℕ) → d < end → cells_has w' d ≡ (has_document m.entries d || cells_has w d)
  pub bound : (d : ℕ) → d < end → (cell_of w' d).bound ≡ (cell_of w d).bound + bound_in d m
  pub state : (d : ℕ) → d < end → (cell_of w' d).state ≡ fold step (cell_of w d).state (scores_in d m.entries)
  pub beyond : (d : ℕ) → end ≤ d → (cells_has w' d ≡ cells_has w d) × (cell_of w' d ≡ cell_of w d)
  pub alike : AreAlike w w'

-- what the cells hold: of each document below an end whether some list has it, the sum of the bounds of its
-- blocks, and its scores
pub record HoldLists {C : Type 0} (step : C → ℕ → C) (end : ℕ) (ms : List Member) (w : Cells C) : Type 0 where
  pub has : (d : ℕ) → d < end → cells_has w d ≡ some_has_document (lists_of ms) d
  pub bound : (d : ℕ) → d < end → (cell_of w d).bound ≡ blockbound d ms
  pub state : (d : ℕ) → d < end → (cell_of w d).state ≡ fold step (cells_clear w).state (scores_of d ms)
  pub beyond : (d : ℕ) → end ≤ d → (cells_has w d ≡ false) × (cell_of w d ≡ cells_clear w)

-- a document that is there, with its score and its bound
pub record Shown : Type 0 where
  pub document : ℕ
  pub score : ℕ
  pub bound : ℕ

-- what is there of so many documents from one on
unfoldable pub shown_from : {C : Type 0} → (C → ℕ) → Cells C → ℕ → ℕ → List Shown
shown_from value w d zero = []
shown_from value w d (suc n) = cond (cells_has w d)
    (record { document = d; score = value (cell_of w d).state; bound = (cell_of w d).bound } ∷ shown_from value w (suc d) n)
    (shown_from value w (suc d) n)

-- all that is there
unfoldable pub all_shown : {C : Type 0} → (C → ℕ) → Cells C → List Shown
all_shown value w = shown_from value w (cells_start w) (length w.cells.items)

-- as documents with their scores
abbrev pub entries_shown : List Shown → List Entry
entries_shown es = map (λ e. scored e.document e.score) es

module _ {F : Type 0} (call : F → ℕ → ℤ → ℤ → F → Type 0) where
  -- the plain run over such documents from a threshold on, with so many of them bounded above the threshold that
  -- is current there
  abbrev pub RunsOver : ℤ → F → List Shown → ℕ → ℤ → F → Type 0
  RunsOver th f [] k last g = (k ≡ 0) × (last ≡ th) × (g ≡ f)
  RunsOver th f (e ∷ es) k last g =
      (after : ℤ) × (h : F) × (n : ℕ) × Turn call th f e.document (pos e.score) after h × (k ≡ one_if_above th e.bound + n) × RunsOver after h es n last g
