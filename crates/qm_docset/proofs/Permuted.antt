-- What holds between a list and each list with the same elements in another order.
use Rattle.std.proofs.Common.{ℕ, zero, suc, ◌<◌, List, [], ◌∷◌, length, get_or, set, swap, arith}
use Rattle.std.specs.List.Sorted.{IsPermutation}
use Rattle.std.proofs.lemmas.List.Sorted.{IsPermutation-keeps}

-- A relation that is reflexive and transitive, and goes under a first element and over an exchange of
-- the first two, holds along every permutation.
module _ {X : Type 0} (R : List X → List X → Type 0)
    (same : (xs : List X) → R xs xs)
    (under : (x : X) (xs ys : List X) → R xs ys → R (x ∷ xs) (x ∷ ys))
    (turned : (x y : X) (xs : List X) → R (x ∷ y ∷ xs) (y ∷ x ∷ xs))
    (joined : (xs ys zs : List X) → R xs ys → R ys zs → R xs zs) where
  -- the first element changes places with a later one
  first_moved : (xs : List X) (j : ℕ) (x d : X) → j < length xs → R (x ∷ xs) (get_or xs j d ∷ set xs j x)
  first_moved [] j x d h = absurd (omega arith)
  first_moved (y ∷ xs) zero x d h = turned x y xs
  first_moved (y ∷ xs) (suc j) x d h =
      joined _ _ _ (turned x y xs) (joined _ _ _ (under y _ _ (first_moved xs j x d (omega arith))) (turned y (get_or xs j d) (set xs j x)))

  two_moved : (xs : List X) (i j : ℕ) (d : X) → i < length xs → j < length xs → R xs (set (set xs i (get_or xs j d)) j (get_or xs i d))
  two_moved [] i j d h k = absurd (omega arith)
  two_moved (x ∷ xs) zero zero d h k = same (x ∷ xs)
  two_moved (x ∷ xs) zero (suc j) d h k = first_moved xs j x d (omega arith)
  two_moved (x ∷ xs) (suc i) zero d h k = first_moved xs i x d (omega arith)
  two_moved (x ∷ xs) (suc i) (suc j) d h k = under x _ _ (two_moved xs i j d (omega arith) (omega arith))

  swapped : (xs : List X) (i j : ℕ) → i < length xs → j < length xs → R xs (swap xs i j)
  swapped [] i j h k = same []
  swapped (x ∷ xs) i j h k = two_moved (x ∷ xs) i j x h k

  pub IsPermutation-along : (xs ys : List X) → IsPermutation xs ys → R xs ys
  IsPermutation-along xs = IsPermutation-keeps xs (R xs) (same xs) (λ l i j h k before. joined xs l _ before (swapped l i j h k))
