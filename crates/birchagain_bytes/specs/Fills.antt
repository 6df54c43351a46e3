-- The front of an array that a caller hands in.
use Rattle.std.specs.Prelude.{◌≡◌, ℕ, List, ◌++◌, drop, length}

-- it has a list of which this holds, so many are told, and the rest of the array is what it was
abbrev pub Fills : {T : Type 0} → (List T → Type 0) → List T → List T → ℕ → Type 0
Fills {T} P before after count = (front : List T) × P front × (count ≡ length front) × (after ≡ front ++ drop count before)
