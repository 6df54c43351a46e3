-- What a row of a term's places shows, as a count passes them one after another.
use Rattle.std.specs.Prelude.{◌≡◌, ℕ, ◌+◌, ◌<◌, ◌≤◌, ◌==◌, if◌then◌else◌, List, [], ◌∷◌, All, drop, max, min, take, vec_capacity}
use Rattle.std.specs.List.{AllZip}
use Rattle.qm_postings.specs.Positions.{shifted}
use Rattle.qm_phrase.specs.Starts.{all_places}
use Rattle.qm_phrase.specs.declared.places.Places.{Places}
use Rattle.qm_phrase.specs.declared.row.Row.{Row}

-- the places that no count has passed yet, of a row that goes through such positions
abbrev pub left_in : List ℕ → Row → List ℕ
left_in positions row = shifted row.shift (drop row.passed positions)

-- the same of a row beside its own positions
abbrev pub places_left : Places → List ℕ
places_left places = left_in places.positions.items places.row

-- all its places, passed or not
abbrev pub places_of : Places → List ℕ
places_of places = shifted places.row.shift places.positions.items

-- how far positions are shifted
abbrev pub shift_of : Places → ℕ
shift_of places = places.row.shift

-- how many positions there is room for
abbrev pub room_of : Places → ℕ
room_of places = vec_capacity places.positions

-- places ascend strictly from `low` on
abbrev pub Ascends : ℕ → List ℕ → Type 0
Ascends low [] = Unit {0}
Ascends low (p ∷ ps) = (low ≤ p) × (p < all_places) × Ascends (p + 1) ps

-- the first place, or past all of them where there is none
abbrev pub first_place : List ℕ → ℕ
first_place [] = all_places
first_place (p ∷ ps) = p

-- the least and the greatest of the first places
abbrev pub least_first_place : List (List ℕ) → ℕ
least_first_place [] = all_places
least_first_place (s ∷ sets) = min (first_place s) (least_first_place sets)

abbrev pub greatest_first_place : List (List ℕ) → ℕ
greatest_first_place [] = 0
greatest_first_place (s ∷ sets) = max (first_place s) (greatest_first_place sets)

-- what is left of a set behind a place that it may begin with
abbrev pub past : ℕ → List ℕ → List ℕ
past x [] = []
past x (p ∷ ps) = if p == x then ps else (p ∷ ps)

-- so many places, all below another, were passed of those that were left
pub record HasPassed (place : ℕ) (old new : List ℕ) : Type 0 where
  pub number : ℕ
  pub left : new ≡ drop number old
  pub below : All (λ p. p < place) (take number old)

-- the same of each of some sets
abbrev pub HavePassed : ℕ → List (List ℕ) → List (List ℕ) → Type 0
HavePassed place old new = AllZip (HasPassed place) old new
