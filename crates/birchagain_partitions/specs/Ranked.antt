-- Items with scores that stand by these, the highest first.
use Rattle.std.specs.Prelude.{ℤ, ◌≤ℤ◌, List, [], ◌∷◌}

module _ {A : Type 0} where
  -- none scores more than this, nor more than one before it
  abbrev pub IsRankedBelow : ℤ → List (A × ℤ) → Type 0
  IsRankedBelow bound [] = Unit {0}
  IsRankedBelow bound (x ∷ xs) = (x.1 ≤ℤ bound) × IsRankedBelow x.1 xs

  -- none scores more than one before it
  abbrev pub IsRanked : List (A × ℤ) → Type 0
  IsRanked [] = Unit {0}
  IsRanked (x ∷ xs) = IsRankedBelow x.1 xs
