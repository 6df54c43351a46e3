-- The run over the documents that all of several terms' scorers have.
use Rattle.std.specs.Prelude.{ℕ, ℤ, ◌+◌, ◌<◌, ◌≤◌, All, Bool, List, ◌∷◌, cond, length, map}
use Rattle.qm_combine.specs.HeldSum.{held_sum}
use Rattle.qm_docset.specs.Entry.{Entry}
use Rattle.qm_docset.specs.Gather.{common_entries}
use Rattle.qm_term.specs.RunCounts.{calls_of}
use Rattle.qm_term.specs.Runs.{InRange, Plain}
use Rattle.qm_term.specs.TermScorer.{scored_left}
use Rattle.qm_term.specs.declared.norms.Norms.{Ghosts as NormGhosts}
use Rattle.qm_term.specs.declared.term_scorer.TermScorer.{TermScorer}
use Rattle.qm_term.specs.declared.wand.ticks.WandCount.{WandCount}

-- what all of several scorers have left: each document with the sum of its scores, held at the greatest score
abbrev pub common_left : {N : Type 0} {G : NormGhosts N} → List (TermScorer N G) → List Entry
common_left scorers = common_entries held_sum (map scored_left scorers)

-- the same of the scorer that leads and of the others
abbrev pub led_left : {N : Type 0} {G : NormGhosts N} → TermScorer N G → List (TermScorer N G) → List Entry
led_left leader others = common_left (leader ∷ others)

-- no document from `low` on and before `next` scores above a bound
abbrev pub IsBoundedIn : ℕ → ℕ → ℕ → List Entry → Type 0
IsBoundedIn low next bound es = All (λ e. low ≤ e.document → e.document < next → e.score ≤ bound) es

-- so many documents, each scored in a turn of its own
abbrev pub turns_of : ℕ → WandCount
turns_of n = record { turns = n; ticks = n }

-- The run over these entries from a threshold on takes the callback from f to g. It has the threshold at each
-- document, and one to end with. So many documents were scored, each in a turn: at least those that were called, and
-- no more than there are.
pub record PrunesBy {F : Type 0} (step : F → ℕ → ℤ → ℤ → F → Type 0) (es : List Entry) (threshold : ℤ) (f : F) (count : WandCount) (g : F) : Type 0 where
  pub thresholds : List ℤ
  pub last : ℤ
  pub calls : Plain (InRange step) threshold f es thresholds last g
  pub at_least : calls_of thresholds es ≤ count.ticks
  pub at_most : count.ticks ≤ length es
  pub turns : count.ticks ≤ count.turns

-- a turn leaves these entries, this threshold and this callback: the run over them is one over what there was before
-- the turn, with a document more where the turn scored one
abbrev pub TurnsInto : {F : Type 0} → (F → ℕ → ℤ → ℤ → F → Type 0) → List Entry → ℤ → F → Bool → List Entry → ℤ → F → Type 0
TurnsInto {F} step es threshold f ticked left after g =
    (k : ℕ) (h : F) → PrunesBy step left after g (turns_of k) h → PrunesBy step es threshold f (turns_of (cond ticked 1 0 + k)) h
