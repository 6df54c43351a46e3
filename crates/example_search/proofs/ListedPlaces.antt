-- The places of the elements that don't pass a test, and these elements.
use Rattle.std.proofs.Common.{◌≡◌, inl, inr, ℕ, ◌+◌, ◌<◌, ◌≤◌, suc, Bool, not, true, false, List, [], ◌∷◌, ◌++◌, All, cond, map, take, drop, length, get_or, refl, sym, ◌∙◌, ap, subst, arith}
use Rattle.std.proofs.lemmas.Bool.{cases_Bool}
use Rattle.std.proofs.lemmas.List.{append_assoc, drop-drop, map-append}
use Rattle.std.proofs.lemmas.List.Elements.{All-cons, All-nil}
use Rattle.std.specs.List.{filter}
use Rattle.qm_folder.specs.Afresh.{ReadFile, as_kept}
use Rattle.qm_folder.specs.Changes.{places_left}
use Rattle.qm_folder.specs.declared.kept_file.KeptFile.{KeptFile}
use Rattle.example_search.specs.Places.{Begins}

module _ {X : Type 0} (p : X → Bool) where
  first_place : (n : ℕ) (xs : List X) (m : ℕ) (ms : List ℕ) → places_left p n xs ≡ m ∷ ms → n ≤ m
  first_place n [] m ms e = absurd (cc e)
  first_place n (x ∷ xs) m ms e = elim (p x) as (λ b. cond b (places_left p (n + 1) xs) (n ∷ places_left p (n + 1) xs) ≡ m ∷ ms → n ≤ m) [
    | true ↦ λ is. omega (arith, first_place (n + 1) xs m ms is)
    | false ↦ λ is. let same : n ≡ m = cc in omega arith
  ] e

  begins_later : (n m : ℕ) (xs : List X) → n < m → Begins n (places_left p m xs) → ⊥
  begins_later n m xs lt begins = go (places_left p m xs) refl begins
    where
      go : (ms : List ℕ) → places_left p m xs ≡ ms → Begins n ms → ⊥
      go [] is none = none
      go (k ∷ ms) is same = omega (arith, first_place m xs k ms is)

  -- where a list of places begins with this one, the element there doesn't pass; else it does
  pub place_listed : (n : ℕ) (x : X) (xs : List X) (next : ℕ) (all : List ℕ) → drop next all ≡ places_left p n (x ∷ xs) → Begins n (drop next all) → (p x ≡ false) × (drop (next + 1) all ≡ places_left p (n + 1) xs)
  place_listed n x xs next all is begins = elim (cases_Bool (p x)) [
    | inl passes ↦
        let later : drop next all ≡ places_left p (n + 1) xs = is ∙ ap (λ (b : Bool). cond b (places_left p (n + 1) xs) (n ∷ places_left p (n + 1) xs)) passes in
        absurd (begins_later n (n + 1) xs (omega arith) (subst (Begins n) later begins))
    | inr fails ↦
        let here : drop next all ≡ n ∷ places_left p (n + 1) xs = is ∙ ap (λ (b : Bool). cond b (places_left p (n + 1) xs) (n ∷ places_left p (n + 1) xs)) fails in
        (fails, sym (drop-drop 1 next all) ∙ ap (drop 1) here)
  ]

  pub place_passed : (n : ℕ) (x : X) (xs : List X) (next : ℕ) (all : List ℕ) → drop next all ≡ places_left p n (x ∷ xs) → (Begins n (drop next all) → ⊥) → (p x ≡ true) × (drop next all ≡ places_left p (n + 1) xs)
  place_passed n x xs next all is other = elim (cases_Bool (p x)) [
    | inl passes ↦ (passes, is ∙ ap (λ (b : Bool). cond b (places_left p (n + 1) xs) (n ∷ places_left p (n + 1) xs)) passes)
    | inr fails ↦
        let here : drop next all ≡ n ∷ places_left p (n + 1) xs = is ∙ ap (λ (b : Bool). cond b (places_left p (n + 1) xs) (n ∷ places_left p (n + 1) xs)) fails in
        absurd (other (subst (Begins n) (sym here) refl))
  ]

  places_in_range : (n : ℕ) (xs : List X) → All (λ m. m < n + length xs) (places_left p n xs)
  places_in_range n [] = All-nil (λ m. m < n + 0)
  places_in_range n (x ∷ xs) =
      let rest : All (λ m. m < n + suc (length xs)) (places_left p (n + 1) xs) = λ k d lt. omega (arith, places_in_range (n + 1) xs k d lt) in
      elim (p x) as (λ b. All (λ m. m < n + suc (length xs)) (cond b (places_left p (n + 1) xs) (n ∷ places_left p (n + 1) xs))) [
        | true ↦ rest
        | false ↦ All-cons (λ m. m < n + suc (length xs)) n (places_left p (n + 1) xs) (omega arith) rest
      ]

  pub place_in_range : (xs : List X) (ns : List ℕ) (i : ℕ) → ns ≡ places_left p 0 xs → i < length ns → get_or ns i 0 < length xs
  place_in_range xs ns i is = subst (λ (ms : List ℕ). i < length ms → get_or ms i 0 < length xs) (sym is) (λ lt. omega (arith, places_in_range 0 xs i 0 lt))

-- the elements at these places
abbrev pub elements_at : {X : Type 0} → List ℕ → List X → List X
elements_at [] xs = []
elements_at (n ∷ ns) xs = take 1 (drop n xs) ++ elements_at ns xs

pub elements_left : {X : Type 0} (p : X → Bool) (all : List X) (n : ℕ) (xs : List X) → drop n all ≡ xs → elements_at (places_left p n xs) all ≡ filter (λ x. not (p x)) xs
elements_left p all n [] is = refl
elements_left {X} p all n (x ∷ xs) is =
    let rest = elements_left p all (n + 1) xs (sym (drop-drop 1 n all) ∙ ap (drop 1) is) in
    elim (p x) as (λ b. elements_at (cond b (places_left p (n + 1) xs) (n ∷ places_left p (n + 1) xs)) all ≡ cond (not b) (x ∷ filter (λ y. not (p y)) xs) (filter (λ y. not (p y)) xs)) [
      | true ↦ rest
      | false ↦ (λ i. take 1 (is i) ++ rest i)
    ]

pub one_more : (before after : List KeptFile) (file : KeptFile) (rest total : List ReadFile) → after ≡ before ++ file ∷ [] → map as_kept before ++ as_kept file ∷ rest ≡ total → map as_kept after ++ rest ≡ total
one_more before after file rest total is was =
    ap (λ (files : List KeptFile). map as_kept files ++ rest) is ∙ ap (λ (files : List ReadFile). files ++ rest) (map-append as_kept before (file ∷ [])) ∙ append_assoc (map as_kept before) (as_kept file ∷ []) rest ∙ was
