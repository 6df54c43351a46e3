-- A window that calls of the cases have changed.
use Rattle.std.specs.Prelude.{ℕ}
use Rattle.qm_combine.specs.Combiner.{HasRoomFor, IsCleared}
use Rattle.qm_combine.specs.Window.{IsUntil, window_combiner, window_state}
use Rattle.qm_combine.specs.declared.union.window.Window.{Window}

-- no document lies past its last, and the state of each has room for so much more
pub record IsPlayed {C : Type 0} (step : C → ℕ → C) (cleared : C → C) (w : Window C) (more : ℕ) : Type 0 where
  pub until : IsUntil w
  pub start : IsCleared cleared (window_combiner w)
  pub room : (d : ℕ) → HasRoomFor step cleared more (window_state w d)
