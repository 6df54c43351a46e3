-- What calls of a window add to it; `step` is what its combiner makes of a state and a score.
use Rattle.std.specs.Prelude.{◌≡◌, ◌≢◌, ℕ, ◌<◌, ◌≤◌, ◌==◌, ◌||◌, nat_le, List, fold, length}
use Rattle.qm_docset.specs.Entry.{Entry}
use Rattle.qm_combine.specs.Window.{IsUntil, window_combiner, window_has, window_start, window_state}
use Rattle.qm_combine.specs.Windowed.{scores_of}
use Rattle.qm_combine.specs.declared.union.window.Window.{Window}

-- a document was added, with its score
pub record IsAdded {C : Type 0} (step : C → ℕ → C) (old new : Window C) (doc score : ℕ) : Type 0 where
  pub documents : (d : ℕ) → window_has new d ≡ (d == doc || window_has old d)
  pub state : window_state new doc ≡ step (window_state old doc) score
  pub others : (d : ℕ) → d ≢ doc → window_state new d ≡ window_state old d
  pub start : window_start new ≡ window_start old
  pub until : IsUntil old → IsUntil new
  pub combiner : window_combiner new ≡ window_combiner old

-- what a list had below a bound was added, with its scores
pub record IsTakenIn {C : Type 0} (step : C → ℕ → C) (old new : Window C) (bound : ℕ) (es : List Entry) : Type 0 where
  pub documents : (d : ℕ) → d < bound → window_has new d ≡ (window_has old d || nat_le 1 (length (scores_of d es)))
  pub beyond : (d : ℕ) → bound ≤ d → window_has new d ≡ window_has old d
  pub states : (d : ℕ) → d < bound → window_state new d ≡ fold step (window_state old d) (scores_of d es)
  pub start : window_start new ≡ window_start old
  pub until : IsUntil old → IsUntil new
  pub combiner : window_combiner new ≡ window_combiner old
