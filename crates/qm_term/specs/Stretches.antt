-- The run over several terms by stretches of documents.
use Rattle.std.specs.Prelude.{◌≡◌, ℕ, ℤ, ◌+◌, ◌<◌, ◌≤◌, List, length, slice_index_or, true, false, All}
use Rattle.qm_combine.specs.Combiner.{HasRoomFor, IsCleared}
use Rattle.qm_docset.specs.Entry.{Entry, greatest_score}
use Rattle.qm_term.specs.Cells.{AreAlike, RunsOver, TakesIn, all_shown, cell_of, cells_clear, cells_end, cells_has, cuts, Shown}
use Rattle.qm_term.specs.HeadRow.{row_lists}
use Rattle.qm_term.specs.Heads.{moved_at, no_member}
use Rattle.qm_term.specs.Members.{Member, bound_at, united}
use Rattle.qm_term.specs.Pivot.{Pruned, cut, head}
use Rattle.qm_term.specs.RunScorers.{ticks_of}
use Rattle.qm_term.specs.Runs.{InRange}
use Rattle.qm_term.specs.declared.norms.Norms.{Ghosts as NormGhosts}
use Rattle.qm_term.specs.declared.wand.cells.Cell.{Cell}
use Rattle.qm_term.specs.declared.wand.cells.Cells.{Cells}
use Rattle.qm_term.specs.declared.wand.front.TermScorerWithMaxScore.{TermScorerWithMaxScore}
use Rattle.qm_term.specs.declared.wand.heads.Head.{Head}
use Rattle.qm_term.specs.declared.wand.stretches.Moved.{Moved}
use Rattle.qm_term.specs.declared.wand.ticks.Ticks.{Ticks}

-- the block of a record at or before a document is known there
abbrev pub IsLookedAt : ℕ → Head → Type 0
IsLookedAt p h = h.doc ≤ p → (h.block_first ≤ p) × (p ≤ h.block_end)

-- so are those of several
abbrev pub AreLookedAt : ℕ → List Head → Type 0
AreLookedAt p hs = (k : ℕ) (d : Head) → k < length hs → IsLookedAt p (slice_index_or hs k d)

-- no record stands before a document
abbrev pub AreFrom : ℕ → List Head → Type 0
AreFrom p hs = (k : ℕ) (d : Head) → k < length hs → p ≤ (slice_index_or hs k d).doc

-- a clear cell has no bound and no score
pub record BeginsClear {C : Type 0} (cleared : C → C) (cell : Cell C) : Type 0 where
  pub bound : cell.bound ≡ 0
  pub state : IsCleared cleared cell.state

-- there are cells for a list's documents below an end, and room in them for its scores and bounds
pub record HasCellsFor {C : Type 0} (step : C → ℕ → C) (cleared : C → C) (end : ℕ) (m : Member) (w : Cells C) : Type 0 where
  pub covered : end ≤ cells_end w
  pub room : (d : ℕ) → head m ≤ d → d < end → HasRoomFor step cleared m.top (cell_of w d).state
  pub fits : (d : ℕ) → head m ≤ d → d < end → (cell_of w d).bound + m.top ≤ greatest_score

-- the documents of a list below an end are in one block, with this bound
abbrev pub IsBoundedTo : ℕ → ℕ → Member → Type 0
IsBoundedTo end bound m = (d : ℕ) → head m ≤ d → d < end → bound_at d m.blocks ≡ bound

-- the documents of the list at k are taken in up to the end of a block, or to an end before that
pub record TakesBlock {C : Type 0} (step : C → ℕ → C) (end k : ℕ) (m : Member) (ms ns : List Member) (w w' : Cells C) : Type 0 where
  pub stop : ℕ
  pub within : stop ≤ end
  pub past : head m < stop
  pub lists : ns ≡ moved_at no_member k (cut stop) ms
  pub cells : TakesIn step stop m w w'

-- a document that is not there has a clear cell
abbrev pub AreTidy : {C : Type 0} → Cells C → Type 0
AreTidy w = (d : ℕ) → cells_has w d ≡ false → cell_of w d ≡ cells_clear w

-- some documents were taken out, whose cells are clear then: each that is left was there, and is as it was
pub record TakenOut {C : Type 0} (w w' : Cells C) : Type 0 where
  pub had : (d : ℕ) → cells_has w' d ≡ true → cells_has w d ≡ true
  pub tidy : AreTidy w'
  pub alike : AreAlike w w'

-- no score of a document passes its bound, which is a score
abbrev pub AreWithin : List Shown → Type 0
AreWithin es = All (λ e. (e.score ≤ e.bound) × (e.bound ≤ greatest_score)) es

module _ {F : Type 0} (call : F → ℕ → ℤ → ℤ → F → Type 0) where
  -- a run over what is there then is one over what was there before, with more ticks
  pub record GoesOn {C : Type 0} (value : C → ℕ) (th : ℤ) (f : F) (w : Cells C) (ticks : ℕ) (th' : ℤ) (g : F) (w' : Cells C) (ticks' : ℕ) : Type 0 where
    pub count : ℕ
    pub counted : ticks' ≡ ticks + count
    pub back : (k : ℕ) (last : ℤ) (h : F) → RunsOver call th' g (all_shown value w') k last h → RunsOver call th f (all_shown value w) (count + k) last h

  -- the run over all that is there, and what it adds to the ticks
  pub record Drains {C : Type 0} (value : C → ℕ) (th : ℤ) (f : F) (w : Cells C) (ticks : ℕ) (th' : ℤ) (g : F) (ticks' : ℕ) : Type 0 where
    pub count : ℕ
    pub counted : ticks' ≡ ticks + count
    pub run : RunsOver call th f (all_shown value w) count th' g

  module _ (combined : List ℕ → ℕ) where
    -- a run over the lists then is one over those that were there before, with more ticks
    pub record MovesOn (th : ℤ) (f : F) (ms : List Member) (ticks : ℕ) (th' : ℤ) (g : F) (ns : List Member) (ticks' : ℕ) : Type 0 where
      pub count : ℕ
      pub counted : ticks' ≡ ticks + count
      pub back : (k : ℕ) (last : ℤ) (h : F) → Pruned call combined th' g ns k last h → Pruned call combined th f ms (count + k) last h

    -- the run over what the lists have
    pub record RunsStretches (th : ℤ) (f : F) (ms : List Member) (ticks : ℕ) (g : F) : Type 0 where
      pub last : ℤ
      pub run : Pruned call combined th f ms ticks last g

-- ---- of a row

-- its list at a place
abbrev pub list_at : {N : Type 0} {G : NormGhosts N} → ℕ → List (TermScorerWithMaxScore N G) → List Head → Member
list_at k ss hs = slice_index_or (row_lists ss hs) k no_member

-- U of its lists from a document on, by what a combiner makes of scores that begins as a clear cell does
abbrev pub union_from : {C N : Type 0} {G : NormGhosts N} → (C → List ℕ → ℕ) → Cells C → ℕ → List (TermScorerWithMaxScore N G) → List Head → List Entry
union_from combined w low ss hs = united (combined (cells_clear w).state) (cuts low (row_lists ss hs))

module _ {F C N : Type 0} {G : NormGhosts N} (step : F → ℕ → ℤ → ℤ → F → Type 0) (combined : C → List ℕ → ℕ) (w : Cells C) where
  -- the run over what the lists have, so combined
  abbrev pub RunsRow : ℤ → F → List (TermScorerWithMaxScore N G) → List Head → Ticks → F → Type 0
  RunsRow th f ss hs ticks g = RunsStretches (InRange step) (combined (cells_clear w).state) th f (row_lists ss hs) (ticks_of ticks) g

  -- a run over what the lists have from an end on is one over what they have from a document on, with more ticks
  abbrev pub MovesTo : ℕ → ℤ → F → List (TermScorerWithMaxScore N G) → List Head → Ticks → ℕ → ℤ → F → Ticks → Type 0
  MovesTo low th f ss hs ticks end th' g ticks' =
      MovesOn (InRange step) (combined (cells_clear w).state) th f (cuts low (row_lists ss hs)) (ticks_of ticks)
      th' g (cuts end (row_lists ss hs)) (ticks_of ticks')

  -- and so is one over what the lists then have, from where the run then stands
  abbrev pub MovesRow : ℕ → ℤ → F → List (TermScorerWithMaxScore N G) → List Head → Ticks →
      Moved → F → List (TermScorerWithMaxScore N G) → List Head → Ticks → Type 0
  MovesRow low th f ss hs ticks moved g ss' hs' ticks' =
      MovesOn (InRange step) (combined (cells_clear w).state) th f (cuts low (row_lists ss hs)) (ticks_of ticks)
      moved.threshold g (cuts moved.low (row_lists ss' hs')) (ticks_of ticks')
