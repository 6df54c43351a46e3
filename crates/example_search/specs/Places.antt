-- Places that are listed.
use Rattle.std.specs.Prelude.{◌≡◌, ℕ, List, [], ◌∷◌}

-- the list begins with this place
abbrev pub Begins : ℕ → List ℕ → Type 0
Begins n [] = ⊥
Begins n (m ∷ ms) = m ≡ n
