-- What a union over a window shows of its fields.
use Rattle.std.specs.Prelude.{◌≡◌, ℕ, ◌≤◌, List, max}
use Rattle.qm_docset.specs.Entry.{Entry, Limits, greatest_score}
use Rattle.qm_docset.specs.Gather.{AreMembers}
use Rattle.qm_combine.specs.Combiner.{IsCleared}
use Rattle.qm_combine.specs.Union.{total_top, united_limits}
use Rattle.qm_combine.specs.Window.{IsUntil, window_combiner, window_has, window_state}
use Rattle.qm_combine.specs.Windowed.{IsWindowed, windowed}
use Rattle.qm_combine.specs.declared.union.window.Window.{Window}

-- its window, the document that it stands on, and of its members the least document, how many of them a document needs,
-- the limits and what each has left
pub record Shown (C : Type 0) : Type 0 where
  pub window : Window C
  pub document : ℕ
  pub ahead : ℕ
  pub least : ℕ
  pub bounds : List Limits
  pub lists : List (List Entry)

-- a document needs as many members, and these have the same limits
pub record HasSameMembers {C : Type 0} (old new : Shown C) : Type 0 where
  pub least : new.least ≡ old.least
  pub bounds : new.bounds ≡ old.bounds

-- a window with a combiner that was cleared and has room for all scores of the members, and the bound on
-- what it makes of them
pub record HasParts {C : Type 0} (cleared : C → C) (w : Window C) (top : ℕ) (limits : List Limits) : Type 0 where
  pub fits : total_top limits ≤ greatest_score
  pub bound : top ≡ max 1 (total_top limits)
  pub start : IsCleared cleared (window_combiner w)
  pub until : IsUntil w

module _ {C : Type 0} (combined : C → List ℕ → ℕ) (value : C → ℕ) where
  -- the score that a window keeps of a document
  abbrev pub kept_score : Window C → ℕ → ℕ
  kept_score w d = value (window_state w d)

  -- what at least `least` members have, from a document on, of what the window keeps and what the members have left
  abbrev pub united : ℕ → Window C → ℕ → List (List Entry) → List Entry
  united least w doc ess = windowed least (window_has w) (kept_score w) doc (combined (window_combiner w)) ess

  -- a union that stands on its first document
  pub record IsUnited (least : ℕ) (cleared : C → C) (w : Window C) (doc ahead top : ℕ) (limits : List Limits) (ess : List (List Entry)) : Type 0 where
    pub parts : HasParts cleared w top limits
    pub standing : IsWindowed least (window_has w) (kept_score w) doc ahead (combined (window_combiner w)) (united_limits limits) ess

  -- what a union lists that shows this
  abbrev pub shown_list : Shown C → List Entry
  shown_list s = united s.least s.window s.document s.lists

  -- it stands on its first document, and what its members have left are lists of cursors
  pub record IsGoing (s : Shown C) : Type 0 where
    pub until : IsUntil s.window
    pub some : 1 ≤ s.least
    pub standing : IsWindowed s.least (window_has s.window) (kept_score s.window) s.document s.ahead (combined (window_combiner s.window))
        (united_limits s.bounds) s.lists
    pub members : AreMembers s.bounds s.lists
