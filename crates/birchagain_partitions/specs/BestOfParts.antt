-- The best of two lists together are the best of both's best.
use Rattle.std.specs.Prelude.{◌≡◌, ℕ, zero, suc, ◌≤◌, ℤ, ◌<ℤ◌, ◌≤ℤ◌, List, [], ◌∷◌, ◌++◌, take}
use Rattle.std.specs.List.{flat_map, fold}
use Rattle.std.proofs.Common.{arith, refl, sym, ap, subst, ◌∙◌}
use Rattle.std.proofs.lemmas.Int.{ints, by_lt_z}
use Rattle.std.proofs.lemmas.List.{take-take}
use Rattle.std.proofs.lemmas.List.Sums.{fold-append}
use Rattle.qm_weight.specs.Best.{best, by_score, placed}
use Rattle.qm_weight.specs.BestFacts.{kept_with-take, placed-before, placed-behind}
use Rattle.birchagain_partitions.specs.Ranked.{IsRanked, IsRankedBelow}

module _ {A : Type 0} where
  -- ---- an item in its place

  abbrev after : List (A × ℤ) → A × ℤ → List (A × ℤ)
  after xs p = placed p xs

  -- some items placed among others, one after another
  abbrev pub joined : List (A × ℤ) → List (A × ℤ) → List (A × ℤ)
  joined xs ys = fold (λ ranked p. placed p ranked) xs ys

  -- ---- the first k alone count

  take-joined : (k : ℕ) (xs ys : List (A × ℤ)) → take k (joined xs ys) ≡ take k (joined (take k xs) ys)
  take-joined k xs [] = sym (take-take k k xs (omega arith))
  take-joined k xs (y ∷ ys) =
      take-joined k (placed y xs) ys
      ∙ ap (λ l. take k (joined l ys)) (sym (kept_with-take k y xs))
      ∙ sym (take-joined k (placed y (take k xs)) ys)

  -- ---- items that stand by their scores

  IsRankedBelow-weaker : (a b : ℤ) (xs : List (A × ℤ)) → a ≤ℤ b → IsRankedBelow a xs → IsRankedBelow b xs
  IsRankedBelow-weaker a b [] order ranked = tt
  IsRankedBelow-weaker a b (x ∷ xs) order ranked = (omega (arith, ints, order, ranked.0), ranked.1)

  IsRanked-below : (b : ℤ) (xs : List (A × ℤ)) → IsRankedBelow b xs → IsRanked xs
  IsRanked-below b [] ranked = tt
  IsRanked-below b (x ∷ xs) ranked = ranked.1

  IsRankedBelow-placed : (b : ℤ) (p : A × ℤ) (xs : List (A × ℤ)) → p.1 ≤ℤ b → IsRankedBelow b xs → IsRankedBelow b (placed p xs)
  IsRankedBelow-placed b p [] below ranked = (below, tt)
  IsRankedBelow-placed b p (x ∷ xs) below ranked =
      by_lt_z x.1 p.1
      (λ less. subst (IsRankedBelow b) (sym (placed-before p x xs less)) (below, (omega (arith, ints, less), ranked.1)))
      (λ order. subst (IsRankedBelow b) (sym (placed-behind p x xs order)) (ranked.0, IsRankedBelow-placed x.1 p xs order ranked.1))

  IsRanked-placed : (p : A × ℤ) (xs : List (A × ℤ)) → IsRanked xs → IsRanked (placed p xs)
  IsRanked-placed p [] ranked = tt
  IsRanked-placed p (x ∷ xs) ranked =
      by_lt_z x.1 p.1
      (λ less. subst IsRanked (sym (placed-before p x xs less)) (omega (arith, ints, less), ranked))
      (λ order. subst IsRanked (sym (placed-behind p x xs order)) (IsRankedBelow-placed x.1 p xs order ranked))

  IsRanked-joined : (xs ys : List (A × ℤ)) → IsRanked xs → IsRanked (joined xs ys)
  IsRanked-joined xs [] ranked = ranked
  IsRanked-joined xs (y ∷ ys) ranked = IsRanked-joined (placed y xs) ys (IsRanked-placed y xs ranked)

  IsRankedBelow-take : (k : ℕ) (b : ℤ) (xs : List (A × ℤ)) → IsRankedBelow b xs → IsRankedBelow b (take k xs)
  IsRankedBelow-take zero b xs ranked = tt
  IsRankedBelow-take (suc k) b [] ranked = tt
  IsRankedBelow-take (suc k) b (x ∷ xs) ranked = (ranked.0, IsRankedBelow-take k x.1 xs ranked.1)

  IsRanked-take : (k : ℕ) (xs : List (A × ℤ)) → IsRanked xs → IsRanked (take k xs)
  IsRanked-take zero xs ranked = tt
  IsRanked-take (suc k) [] ranked = tt
  IsRanked-take (suc k) (x ∷ xs) ranked = IsRankedBelow-take k x.1 xs ranked

  -- the best of some items stand by their scores
  pub best-ranked : (k : ℕ) (xs : List (A × ℤ)) → IsRanked (best k xs)
  best-ranked k xs = IsRanked-take k (by_score xs) (IsRanked-joined [] xs tt)

  -- ---- two lists that stand by their scores

  -- the first of one list comes first where none of the other scores more
  pub joined-first : (x : A × ℤ) (xs ys : List (A × ℤ)) → IsRankedBelow x.1 ys → joined (x ∷ xs) ys ≡ x ∷ joined xs ys
  joined-first x xs [] below = refl
  joined-first x xs (y ∷ ys) below =
      ap (λ l. joined l ys) (placed-behind y x xs below.0)
      ∙ joined-first x (placed y xs) ys (IsRankedBelow-weaker y.1 x.1 ys below.0 below.1)

  -- that of the other does where it scores more
  pub joined-second : (x y : A × ℤ) (xs ys : List (A × ℤ)) → x.1 <ℤ y.1 → IsRankedBelow y.1 ys
      → joined (x ∷ xs) (y ∷ ys) ≡ y ∷ joined (x ∷ xs) ys
  joined-second x y xs ys less below = ap (λ l. joined l ys) (placed-before y x xs less) ∙ joined-first y (x ∷ xs) ys below

  -- what stands by its scores is what it is by its scores
  pub by_score-ranked : (xs : List (A × ℤ)) → IsRanked xs → by_score xs ≡ xs
  by_score-ranked [] ranked = refl
  by_score-ranked (x ∷ xs) ranked = joined-first x [] xs ranked ∙ ap (λ l. x ∷ l) (by_score-ranked xs (IsRanked-below x.1 xs ranked))

  -- ---- items that are placed one after another, in another order

  placed-swap : (x p : A × ℤ) (xs : List (A × ℤ)) → x.1 <ℤ p.1 → placed x (placed p xs) ≡ placed p (placed x xs)
  placed-swap x p [] less = placed-behind x p [] (omega (arith, ints, less)) ∙ sym (placed-before p x [] less)
  placed-swap x p (y ∷ ys) less =
      by_lt_z y.1 p.1
      (λ past.
      ap (placed x) (placed-before p y ys past)
      ∙ placed-behind x p (y ∷ ys) (omega (arith, ints, less))
      ∙ by_lt_z y.1 x.1
      (λ first.
      ap (λ l. p ∷ l) (placed-before x y ys first)
      ∙ sym (placed-before p x (y ∷ ys) less)
      ∙ sym (ap (placed p) (placed-before x y ys first)))
      (λ behind.
      ap (λ l. p ∷ l) (placed-behind x y ys behind)
      ∙ sym (placed-before p y (placed x ys) past)
      ∙ sym (ap (placed p) (placed-behind x y ys behind))))
      (λ order.
      let lower : x.1 ≤ℤ y.1 = omega (arith, ints, less, order) in
      ap (placed x) (placed-behind p y ys order)
      ∙ placed-behind x y (placed p ys) lower
      ∙ ap (λ l. y ∷ l) (placed-swap x p ys less)
      ∙ sym (placed-behind p y (placed x ys) order)
      ∙ sym (ap (placed p) (placed-behind x y ys lower)))

  joined-past : (p : A × ℤ) (b : ℤ) (xs ys : List (A × ℤ)) → b <ℤ p.1 → IsRankedBelow b ys → joined (placed p xs) ys ≡ placed p (joined xs ys)
  joined-past p b xs [] less ranked = refl
  joined-past p b xs (y ∷ ys) less ranked =
      let lower : y.1 <ℤ p.1 = omega (arith, ints, less, ranked.0) in
      ap (λ l. joined l ys) (placed-swap y p xs lower) ∙ joined-past p y.1 (placed y xs) ys lower ranked.1

  joined-placed : (p : A × ℤ) (xs ys : List (A × ℤ)) → IsRanked ys → joined xs (placed p ys) ≡ placed p (joined xs ys)
  joined-placed p xs [] ranked = refl
  joined-placed p xs (y ∷ ys) ranked =
      by_lt_z y.1 p.1
      (λ less. ap (joined xs) (placed-before p y ys less) ∙ joined-past p y.1 xs (y ∷ ys) less (omega (arith, ints), ranked))
      (λ order. ap (joined xs) (placed-behind p y ys order) ∙ joined-placed p (placed y xs) ys (IsRanked-below y.1 ys ranked))

  joined-joined : (xs ys zs : List (A × ℤ)) → IsRanked ys → joined xs (joined ys zs) ≡ joined (joined xs ys) zs
  joined-joined xs ys [] ranked = refl
  joined-joined xs ys (z ∷ zs) ranked =
      joined-joined xs (placed z ys) zs (IsRanked-placed z ys ranked) ∙ ap (λ l. joined l zs) (joined-placed z xs ys ranked)

  by_score-parts : (xs ys : List (A × ℤ)) → by_score (xs ++ ys) ≡ joined (by_score xs) (by_score ys)
  by_score-parts xs ys = fold-append after [] xs ys ∙ sym (joined-joined (by_score xs) [] ys tt)

  -- ---- the first k of both alone count

  take-joined_ranked : (k : ℕ) (xs ys : List (A × ℤ)) → IsRanked ys → take k (joined xs ys) ≡ take k (joined xs (take k ys))
  take-joined_ranked zero xs ys ranked = refl
  take-joined_ranked (suc k) xs [] ranked = refl
  take-joined_ranked (suc k) [] (y ∷ ys) ranked =
      ap (take (suc k)) (by_score-ranked (y ∷ ys) ranked)
      ∙ sym (take-take (suc k) (suc k) (y ∷ ys) (omega arith))
      ∙ sym (ap (take (suc k)) (by_score-ranked (take (suc k) (y ∷ ys)) (IsRanked-take (suc k) (y ∷ ys) ranked)))
  take-joined_ranked (suc k) (x ∷ xs) (y ∷ ys) ranked =
      by_lt_z x.1 y.1
      (λ less.
      ap (take (suc k)) (joined-second x y xs ys less ranked)
      ∙ ap (λ l. y ∷ l) (take-joined_ranked k (x ∷ xs) ys (IsRanked-below y.1 ys ranked))
      ∙ sym (ap (take (suc k)) (joined-second x y xs (take k ys) less (IsRankedBelow-take k y.1 ys ranked))))
      (λ order.
      ap (take (suc k)) (joined-first x xs (y ∷ ys) (order, ranked))
      ∙ ap (λ l. x ∷ l)
      (take-joined_ranked k xs (y ∷ ys) ranked
      ∙ ap (λ l. take k (joined xs l)) (sym (take-take k (suc k) (y ∷ ys) (omega arith)))
      ∙ sym (take-joined_ranked k xs (y ∷ take k ys) (IsRankedBelow-take k y.1 ys ranked)))
      ∙ sym (ap (take (suc k)) (joined-first x xs (y ∷ take k ys) (order, IsRankedBelow-take k y.1 ys ranked))))

  -- ---- the law

  best-joined : (k : ℕ) (xs ys : List (A × ℤ)) → best k (xs ++ ys) ≡ take k (joined (best k xs) (best k ys))
  best-joined k xs ys =
      ap (take k) (by_score-parts xs ys)
      ∙ take-joined k (by_score xs) (by_score ys)
      ∙ take-joined_ranked k (best k xs) (by_score ys) (IsRanked-joined [] ys tt)

  -- the best k of two lists that stand by their scores
  pub best-of_ranked : (k : ℕ) (xs ys : List (A × ℤ)) → IsRanked xs → IsRanked ys → best k (xs ++ ys) ≡ take k (joined xs ys)
  best-of_ranked k xs ys first second =
      ap (take k) (by_score-parts xs ys) ∙ (λ i. take k (joined (by_score-ranked xs first i) (by_score-ranked ys second i)))

  -- The best k of two lists one behind the other are the best k of both's best k.
  pub best-of_parts : (k : ℕ) (xs ys : List (A × ℤ)) → best k (xs ++ ys) ≡ best k (best k xs ++ best k ys)
  best-of_parts k xs ys =
      best-joined k xs ys ∙ sym (best-of_ranked k (best k xs) (best k ys) (best-ranked k xs) (best-ranked k ys))

  -- The same of any number of lists.
  pub best-of_all_parts : (k : ℕ) (parts : List (List (A × ℤ))) → best k (flat_map (λ xs. xs) parts) ≡ best k (flat_map (best k) parts)
  best-of_all_parts k [] = refl
  best-of_all_parts k (xs ∷ parts) =
      let others = flat_map (λ ys. ys) parts in
      let bests = flat_map (best k) parts in
      let again : best k (best k xs) ≡ best k xs = ap (take k) (by_score-ranked (best k xs) (best-ranked k xs)) ∙ take-take k k (by_score xs) (omega arith) in
      best-of_parts k xs others
      ∙ ap (λ l. best k (best k xs ++ l)) (best-of_all_parts k parts)
      ∙ sym (best-of_parts k (best k xs) bests ∙ ap (λ l. best k (l ++ best k bests)) again)
