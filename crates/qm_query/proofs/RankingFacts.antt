-- Items in order: where a further one goes, and that it is of no consequence in which order they came.
use Rattle.std.specs.Prelude.{◌≡◌, ℕ, zero, suc, ◌+◌, ◌<◌, ◌≤◌, true, false, if◌then◌else◌, List, [], ◌∷◌, ◌++◌, All, length, take}
use Rattle.std.specs.Cmp.{IsTotalOrder, IsStrictWeakOrder}
use Rattle.std.specs.List.{fold}
use Rattle.std.specs.List.Sorted.{IsPermutation, IsSortedBy}
use Rattle.std.specs.Ordering.{is_lt, ordering_reverse}
use Rattle.std.specs.declared.cmp.Ordering.{Ordering}
use Rattle.std.specs.declared.cmp.Ordering.TheVariants.{Less, Equal, Greater}
use Rattle.std.proofs.Common.{arith, refl, sym, ap, subst, ◌∙◌, get_or, inl, inr, true≢false}
use Rattle.std.proofs.lemmas.Bool.{cases_Bool}
use Rattle.std.proofs.lemmas.List.{take-take, take-append-le, take_all}
use Rattle.std.proofs.lemmas.List.Elements.{All-cons, All-head, All-nil, All-tail, All-weaker}
use Rattle.std.proofs.lemmas.List.Sorted.{All-permutation, length_permutation, ranks_by, sorted_far}
use Rattle.qm_docset.proofs.Permuted.{IsPermutation-along}
use Rattle.qm_query.specs.Ranking.{put, ranked_with, ranking}

-- ---- where an item goes

module _ {X : Type 0} (cmp : X → X → Ordering) where
  put-before : (x y : X) (ys : List X) → is_lt (cmp x y) ≡ true → put cmp x (y ∷ ys) ≡ x ∷ y ∷ ys
  put-before x y ys less = ap (λ b. if b then x ∷ y ∷ ys else y ∷ put cmp x ys) less

  put-behind : (x y : X) (ys : List X) → is_lt (cmp x y) ≡ false → put cmp x (y ∷ ys) ≡ y ∷ put cmp x ys
  put-behind x y ys behind = ap (λ b. if b then x ∷ y ∷ ys else y ∷ put cmp x ys) behind

  pub length-put : (x : X) (ys : List X) → length (put cmp x ys) ≡ suc (length ys)
  length-put x [] = refl
  length-put x (y ∷ ys) = elim (cases_Bool (is_lt (cmp x y))) [
    | inl less ↦ ap length (put-before x y ys less)
    | inr behind ↦ ap length (put-behind x y ys behind) ∙ ap suc (length-put x ys)
  ]

  pub All-put : (P : X → Type 0) (x : X) (ys : List X) → P x → All P ys → All P (put cmp x ys)
  All-put P x [] here all = All-cons P x [] here all
  All-put P x (y ∷ ys) here all = elim (cases_Bool (is_lt (cmp x y))) [
    | inl less ↦ subst (All P) (sym (put-before x y ys less)) (All-cons P x (y ∷ ys) here all)
    | inr behind ↦
        subst (All P) (sym (put-behind x y ys behind)) (All-cons P y (put cmp x ys) (All-head P y ys all) (All-put P x ys here (All-tail P y ys all)))
  ]

  -- behind all that are no greater
  pub put-last : (x : X) (ys : List X) → All (λ y. is_lt (cmp x y) ≡ false) ys → put cmp x ys ≡ ys ++ x ∷ []
  put-last x [] all = refl
  put-last x (y ∷ ys) all =
      put-behind x y ys (All-head (λ z. is_lt (cmp x z) ≡ false) y ys all) ∙ ap (λ l. y ∷ l) (put-last x ys (All-tail (λ z. is_lt (cmp x z) ≡ false) y ys all))

  take-front : (k : ℕ) (x : X) (xs : List X) → take k (x ∷ take k xs) ≡ take k (x ∷ xs)
  take-front zero x xs = refl
  take-front (suc k) x xs = ap (λ l. x ∷ l) (take-take k (suc k) xs (omega arith))

  -- of all items but the least k none is needed
  pub ranked_with-take : (k : ℕ) (x : X) (ys : List X) → ranked_with cmp k x (take k ys) ≡ ranked_with cmp k x ys
  ranked_with-take zero x ys = refl
  ranked_with-take (suc k) x [] = refl
  ranked_with-take (suc k) x (y ∷ ys) = elim (cases_Bool (is_lt (cmp x y))) [
    | inl less ↦ ap (take (suc k)) (put-before x y (take k ys) less) ∙ ap (λ l. x ∷ l) (take-front k y ys) ∙ sym (ap (take (suc k)) (put-before x y ys less))
    | inr behind ↦ ap (take (suc k)) (put-behind x y (take k ys) behind)
        ∙ ap (λ l. y ∷ l) (ranked_with-take k x ys) ∙ sym (ap (take (suc k)) (put-behind x y ys behind))
  ]

  -- one that is no less than k others is not among the least k
  pub ranked_with-last : (k : ℕ) (x : X) (ys : List X) → k ≤ length ys → All (λ y. is_lt (cmp x y) ≡ false) ys → ranked_with cmp k x ys ≡ take k ys
  ranked_with-last k x ys enough all = ap (take k) (put-last x ys all) ∙ take-append-le k ys (x ∷ []) enough

  All-fold : (P : X → Type 0) (ranked xs : List X) → All P ranked → All P xs → All P (fold (λ l x. put cmp x l) ranked xs)
  All-fold P ranked [] before all = before
  All-fold P ranked (x ∷ xs) before all = All-fold P (put cmp x ranked) xs (All-put P x ranked (All-head P x xs all) before) (All-tail P x xs all)

  pub All-ranking : (P : X → Type 0) (xs : List X) → All P xs → All P (ranking cmp xs)
  All-ranking P xs all = All-fold P [] xs (All-nil P) all

  length-fold : (ranked xs : List X) → length (fold (λ l x. put cmp x l) ranked xs) ≡ length ranked + length xs
  length-fold ranked [] = omega arith
  length-fold ranked (x ∷ xs) = omega (arith, length-fold (put cmp x ranked) xs, length-put x ranked)

  pub length-ranking : (xs : List X) → length (ranking cmp xs) ≡ length xs
  length-ranking xs = omega (arith, length-fold [] xs)

-- ---- the order in which they came

module _ {X : Type 0} (cmp : X → X → Ordering) (total : IsTotalOrder cmp) (same : (x y : X) → cmp x y ≡ Equal → x ≡ y) where
  weak : IsStrictWeakOrder (λ x y. is_lt (cmp x y))
  weak = ranks_by total (λ x. x)

  forward : (x y : X) → cmp x y ≡ Greater → cmp y x ≡ Less
  forward x y greater = total.antisymm y x ∙ ap ordering_reverse greater

  back : (x y : X) → cmp x y ≡ Less → is_lt (cmp y x) ≡ false
  back x y less = weak.one_way x y (ap is_lt less)

  -- what is not below a lesser item is not below a greater one
  not_below : (x y z : X) → cmp x y ≡ Less → is_lt (cmp x z) ≡ false → is_lt (cmp y z) ≡ false
  not_below x y z less above = weak.chain y x z (back x y less) above

  put-two : (x y : X) → cmp x y ≡ Less → (zs : List X) → put cmp x (put cmp y zs) ≡ put cmp y (put cmp x zs)
  put-two x y less [] = put-before cmp x y [] (ap is_lt less) ∙ sym (put-behind cmp y x [] (back x y less))
  put-two x y less (z ∷ zs) = elim (cases_Bool (is_lt (cmp x z))) [
    | inl first ↦
        let right : put cmp y (put cmp x (z ∷ zs)) ≡ x ∷ put cmp y (z ∷ zs) = ap (put cmp y) (put-before cmp x z zs first)
        ∙ put-behind cmp y x (z ∷ zs) (back x y less) in
        let left : put cmp x (put cmp y (z ∷ zs)) ≡ x ∷ put cmp y (z ∷ zs) = elim (cases_Bool (is_lt (cmp y z))) [
          | inl second ↦ ap (put cmp x) (put-before cmp y z zs second)
              ∙ put-before cmp x y (z ∷ zs) (ap is_lt less) ∙ sym (ap (λ l. x ∷ l) (put-before cmp y z zs second))
          | inr third ↦ ap (put cmp x) (put-behind cmp y z zs third)
              ∙ put-before cmp x z (put cmp y zs) first ∙ sym (ap (λ l. x ∷ l) (put-behind cmp y z zs third))
        ] in
        left ∙ sym right
    | inr third ↦
        let last = not_below x y z less third in
        ap (put cmp x) (put-behind cmp y z zs last) ∙ put-behind cmp x z (put cmp y zs) third ∙ ap (λ l. z ∷ l) (put-two x y less zs)
        ∙ sym (ap (put cmp y) (put-behind cmp x z zs third) ∙ put-behind cmp y z (put cmp x zs) last)
  ]

  put-either : (x y : X) (zs : List X) (r : Ordering) → cmp x y ≡ r → put cmp x (put cmp y zs) ≡ put cmp y (put cmp x zs)
  put-either x y zs Less is = put-two x y is zs
  put-either x y zs Equal is = let e = same x y is in λ i. put cmp (e i) (put cmp (sym e i) zs)
  put-either x y zs Greater is = sym (put-two y x (forward x y is) zs)

  put-commutes : (x y : X) (zs : List X) → put cmp x (put cmp y zs) ≡ put cmp y (put cmp x zs)
  put-commutes x y zs = put-either x y zs (cmp x y) refl

  fold-put : (x : X) (ranked xs : List X) → fold (λ l y. put cmp y l) (put cmp x ranked) xs ≡ put cmp x (fold (λ l y. put cmp y l) ranked xs)
  fold-put x ranked [] = refl
  fold-put x ranked (y ∷ ys) = ap (λ l. fold (λ l z. put cmp z l) l ys) (put-commutes y x ranked) ∙ fold-put x (put cmp y ranked) ys

  pub ranking-cons : (x : X) (xs : List X) → ranking cmp (x ∷ xs) ≡ put cmp x (ranking cmp xs)
  ranking-cons x xs = fold-put x [] xs

  pub ranking-permutation : (xs ys : List X) → IsPermutation xs ys → ranking cmp xs ≡ ranking cmp ys
  ranking-permutation = IsPermutation-along (λ xs ys. ranking cmp xs ≡ ranking cmp ys)
      (λ xs. refl)
      (λ x xs ys before. ranking-cons x xs ∙ ap (put cmp x) before ∙ sym (ranking-cons x ys))
      (λ x y xs. ap (λ l. fold (λ l z. put cmp z l) l xs) (put-commutes y x []))
      (λ xs ys zs h k. h ∙ k)

  -- before all that are no less
  first_by : (x y : X) (ys : List X) (r : Ordering) → cmp x y ≡ r → is_lt (cmp y x) ≡ false → put cmp x ys ≡ x ∷ ys → put cmp x (y ∷ ys) ≡ x ∷ y ∷ ys
  first_by x y ys Less is no_less others = put-before cmp x y ys (ap is_lt is)
  first_by x y ys Equal is no_less others = let e = same x y is in put-behind cmp x y ys (ap is_lt is) ∙ ap (λ l. y ∷ l) others ∙ (λ i. sym e i ∷ e i ∷ ys)
  first_by x y ys Greater is no_less others = absurd (true≢false (sym (ap is_lt (forward x y is)) ∙ no_less))

  put-first : (x : X) (ys : List X) → All (λ y. is_lt (cmp y x) ≡ false) ys → put cmp x ys ≡ x ∷ ys
  put-first x [] all = refl
  put-first x (y ∷ ys) all =
      first_by x y ys (cmp x y) refl (All-head (λ z. is_lt (cmp z x) ≡ false) y ys all) (put-first x ys (All-tail (λ z. is_lt (cmp z x) ≡ false) y ys all))

  pub ranking-sorted : (xs : List X) → IsSortedBy (λ x y. is_lt (cmp x y)) xs → ranking cmp xs ≡ xs
  ranking-sorted [] up = refl
  ranking-sorted (x ∷ xs) up =
      ranking-cons x xs
      ∙ ap (put cmp x) (ranking-sorted xs (λ k d low high. let next : suc k + 1 ≡ suc (k + 1) = omega arith in
      subst (λ n. is_lt (cmp (get_or (x ∷ xs) n d) (get_or xs k d)) ≡ false) next (up (suc k) d (omega arith) (omega arith))))
      ∙ put-first x xs (λ k d below. sorted_far (λ y z. is_lt (cmp y z)) weak (x ∷ xs) up 0 (suc k) d (omega arith) (omega arith))

  -- ---- the least so many

  -- where there is room for one more, all are kept
  pub ranking-room : (k : ℕ) (x : X) (xs ys : List X) → length xs < k → IsPermutation (x ∷ xs) ys → ranking cmp ys ≡ ranked_with cmp k x (ranking cmp xs)
  ranking-room k x xs ys room moved =
      let all = sym (ranking-permutation (x ∷ xs) ys moved) ∙ ranking-cons x xs in
      all ∙ sym (take_all k (put cmp x (ranking cmp xs)) (omega (arith, length-put cmp x (ranking cmp xs), length-ranking cmp xs)))

  -- where there is none, and it is less than the greatest, it takes the place of that
  pub ranking-replaced : (k : ℕ) (x greatest : X) (xs rest ys : List X) → k ≡ length xs → IsPermutation xs (greatest ∷ rest) → IsPermutation (x ∷ rest) ys
      → All (λ y. is_lt (cmp greatest y) ≡ false) xs → is_lt (cmp x greatest) ≡ true → ranking cmp ys ≡ ranked_with cmp k x (ranking cmp xs)
  ranking-replaced k x greatest xs rest ys full was is top less =
      let others : All (λ y. is_lt (cmp greatest y) ≡ false) rest =
      All-tail (λ y. is_lt (cmp greatest y) ≡ false) greatest rest (All-permutation (λ y. is_lt (cmp greatest y) ≡ false) xs (greatest ∷ rest) was top) in
      let left = put cmp x (ranking cmp rest) in
      let last : put cmp greatest left ≡ left ++ greatest ∷ [] =
      put-last cmp greatest left (All-put cmp (λ y. is_lt (cmp greatest y) ≡ false) x (ranking cmp rest)
      (weak.one_way x greatest less) (All-ranking cmp (λ y. is_lt (cmp greatest y) ≡ false) rest others)) in
      let before : put cmp x (ranking cmp xs) ≡ left ++ greatest ∷ [] =
      ap (put cmp x) (ranking-permutation xs (greatest ∷ rest) was ∙ ranking-cons greatest rest) ∙ put-commutes x greatest (ranking cmp rest) ∙ last in
      let after : ranking cmp ys ≡ left = sym (ranking-permutation (x ∷ rest) ys is) ∙ ranking-cons x rest in
      let long : length left ≡ k =
      omega (arith, length-put cmp x (ranking cmp rest), length-ranking cmp rest, length_permutation xs (greatest ∷ rest) was, full) in
      after ∙ sym (ap (take k) before ∙ take-append-le k left (greatest ∷ []) (omega (arith, long)) ∙ take_all k left (omega (arith, long)))

  -- and else it is let go
  pub ranking-full : (k : ℕ) (x greatest : X) (xs ys : List X) → k ≡ length xs → IsPermutation xs ys
      → All (λ y. is_lt (cmp greatest y) ≡ false) xs → is_lt (cmp x greatest) ≡ false → ranking cmp ys ≡ ranked_with cmp k x (ranking cmp xs)
  ranking-full k x greatest xs ys full moved top no_less =
      let all : All (λ y. is_lt (cmp x y) ≡ false) xs =
      All-weaker (λ y. is_lt (cmp greatest y) ≡ false) (λ y. is_lt (cmp x y) ≡ false) (λ y. weak.chain x greatest y no_less) xs top in
      sym (ranking-permutation xs ys moved)
      ∙ sym (ranked_with-last cmp k x (ranking cmp xs) (omega (arith, length-ranking cmp xs, full)) (All-ranking cmp (λ y. is_lt (cmp x y) ≡ false) xs all)
      ∙ take_all k (ranking cmp xs) (omega (arith, length-ranking cmp xs, full)))
