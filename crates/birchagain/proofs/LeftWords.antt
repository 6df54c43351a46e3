-- What is left of a list from a place on, in a loop over it.
use Rattle.std.proofs.Common.{◌≡◌, ◌<◌, ◌≤◌, ◌+◌, ℕ, zero, suc, List, [], ◌∷◌, length, map, drop, get_or, refl, ap, sym, ◌∙◌, arith}
use Rattle.std.proofs.lemmas.List.{drop-map, drop_more}
use Rattle.std.proofs.lemmas.List.Sums.{sum_by-cons}
use Rattle.std.specs.List.{sum_by}

pub left-none : {A : Type 0} (xs : List A) (i : ℕ) → length xs ≤ i → drop i xs ≡ []
left-none [] zero h = refl
left-none [] (suc i) h = refl
left-none (x ∷ xs) zero h = absurd (omega arith)
left-none (x ∷ xs) (suc i) h = left-none xs i (omega arith)

pub left-mapped : {A B : Type 0} (f : A → B) (xs : List A) (i : ℕ) (x d : A) → i < length xs → x ≡ get_or xs i d →
    drop i (map f xs) ≡ f x ∷ drop (i + 1) (map f xs)
left-mapped f xs i x d below is = drop-map f i xs ∙ ap (map f) (drop_more xs i d below)
    ∙ (λ j. f (sym is j) ∷ sym (drop-map f (i + 1) xs) j)

pub left-sum : {A : Type 0} (g : A → ℕ) (xs : List A) (i : ℕ) (x d : A) → i < length xs → x ≡ get_or xs i d →
    sum_by g (drop i xs) ≡ g x + sum_by g (drop (i + 1) xs)
left-sum g xs i x d below is =
    ap (sum_by g) (drop_more xs i d below) ∙ sum_by-cons g (get_or xs i d) (drop (i + 1) xs) ∙ ap (λ y. g y + sum_by g (drop (i + 1) xs)) (sym is)

pub left-summed : {A B : Type 0} (g : B → ℕ) (f : A → B) (xs : List A) (i : ℕ) (x d : A) → i < length xs → x ≡ get_or xs i d →
    sum_by g (map f (drop i xs)) ≡ g (f x) + sum_by g (map f (drop (i + 1) xs))
left-summed g f xs i x d below is =
    ap (λ l. sum_by g (map f l)) (drop_more xs i d below) ∙ sum_by-cons g (f (get_or xs i d)) (map f (drop (i + 1) xs))
    ∙ ap (λ y. g (f y) + sum_by g (map f (drop (i + 1) xs))) (sym is)
