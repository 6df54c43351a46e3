-- What a combiner has taken in since it was cleared.
use Rattle.std.specs.Prelude.{◌≡◌, ℕ, List, fold, sum}

-- it was cleared, took in some scores, and these add up to a total
pub record StandsFor {C : Type 0} (step : C → ℕ → C) (cleared : C → C) (combiner : C) (total : ℕ) : Type 0 where
  pub start : C
  pub scores : List ℕ
  pub is : combiner ≡ fold step (cleared start) scores
  pub adds_up : sum scores ≡ total
