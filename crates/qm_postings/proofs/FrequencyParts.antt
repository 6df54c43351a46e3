-- A part of two rows, one behind the other, is the parts of both.
use Rattle.std.proofs.Common.{◌≡◌, ℕ, ◌+◌, ◌-◌, ◌≤◌, List, [], ◌∷◌, ◌++◌, length, drop, get_or, suc, take, max, min, zero, refl, subst, sym, ap, ◌∙◌, arith, inl, inr}
use Rattle.std.specs.Prelude.{All}
use Rattle.std.specs.List.{fold}
use Rattle.std.proofs.lemmas.Bool.{cases_lt}
use Rattle.std.proofs.lemmas.List.{append-nil, get_or-append-add, get_or_append_left, length-append, length-drop, take_all, take-append-le, drop-append-le}
use Rattle.std.proofs.Math.Seq.{take-append-add, drop-append-add}
use Rattle.qm_postings.specs.Kept.{greatest}

module _ {A : Type 0} (xs ys : List A) (start end : ℕ) (ordered : start ≤ end) where
  abbrev pub whole : List A
  whole = take (end - start) (drop start (xs ++ ys))

  -- the part lies in the first row
  pub before : end ≤ length xs → take (end - start) (drop start xs) ≡ whole
  before e =
      sym (take-append-le (end - start) (drop start xs) ys (omega (arith, length-drop start xs)))
      ∙ ap (take (end - start)) (sym (drop-append-le start xs ys (omega arith)))

  -- it reaches from the first into the second
  across : start ≤ length xs → length xs ≤ end → take (length xs - start) (drop start xs) ++ take (end - length xs) ys ≡ whole
  across s e =
      let count : end - start ≡ length (drop start xs) + (end - length xs) = omega (arith, length-drop start xs) in
      ap (λ zs. zs ++ take (end - length xs) ys) (take_all (length xs - start) (drop start xs) (omega (arith, length-drop start xs)))
      ∙ sym (take-append-add (drop start xs) ys (end - length xs)) ∙ ap (λ n. take n (drop start xs ++ ys)) (sym count)
      ∙ ap (take (end - start)) (sym (drop-append-le start xs ys s))

  -- it lies in the second
  behind : length xs ≤ start → take (end - start) (drop (start - length xs) ys) ≡ whole
  behind s =
      let at : length xs + (start - length xs) ≡ start = omega arith in
      ap (take (end - start)) (sym (drop-append-add xs ys (start - length xs)) ∙ ap (λ n. drop n (xs ++ ys)) at)

  pub part_of_both : take (min end (length xs) - min start (length xs)) (drop (min start (length xs)) xs)
      ++ take (end - length xs - (start - length xs)) (drop (start - length xs) ys) ≡ whole
  part_of_both = elim (cases_lt end (length xs)) [
    | inl inner ↦
        let first : min start (length xs) ≡ start = omega arith in
        let last : min end (length xs) ≡ end = omega arith in
        let none : end - length xs - (start - length xs) ≡ 0 = omega arith in
        (λ i. take (last i - first i) (drop (first i) xs) ++ take (none i) (drop (start - length xs) ys))
        ∙ append-nil (take (end - start) (drop start xs)) ∙ before (omega arith)
    | inr outer ↦ elim (cases_lt start (length xs)) [
      | inl inner ↦
          let first : min start (length xs) ≡ start = omega arith in
          let last : min end (length xs) ≡ length xs = omega arith in
          let none : start - length xs ≡ 0 = omega arith in
          let count : end - length xs - (start - length xs) ≡ end - length xs = omega arith in
          (λ i. take (last i - first i) (drop (first i) xs) ++ take (count i) (drop (none i) ys)) ∙ across (omega arith) outer
      | inr far ↦
          let none : min end (length xs) - min start (length xs) ≡ 0 = omega arith in
          let count : end - length xs - (start - length xs) ≡ end - start = omega arith in
          (λ i. take (none i) (drop (min start (length xs)) xs) ++ take (count i) (drop (start - length xs) ys)) ∙ behind far
    ]
  ]

-- ---- the greatest of both

fold-append : (acc : ℕ) (xs ys : List ℕ) → fold max acc (xs ++ ys) ≡ fold max (fold max acc xs) ys
fold-append acc [] ys = refl
fold-append acc (x ∷ xs) ys = fold-append (max acc x) xs ys

fold-from : (a b : ℕ) (ys : List ℕ) → fold max (max a b) ys ≡ max a (fold max b ys)
fold-from a b [] = refl
fold-from a b (y ∷ ys) =
    let regrouped : max (max a b) y ≡ max a (max b y) = omega arith in
    ap (λ m. fold max m ys) regrouped ∙ fold-from a (max b y) ys

pub greatest-both : (xs ys : List ℕ) → max (greatest xs) (greatest ys) ≡ greatest (xs ++ ys)
greatest-both xs ys =
    let whole : max (greatest xs) 0 ≡ greatest xs = omega arith in
    sym (fold-from (greatest xs) 0 ys) ∙ ap (λ m. fold max m ys) whole ∙ sym (fold-append 0 xs ys)

-- ---- none is greater than the greatest

greatest-cons : (x : ℕ) (xs : List ℕ) → greatest (x ∷ xs) ≡ max x (greatest xs)
greatest-cons x xs =
    let turned : max 0 x ≡ max x 0 = omega arith in
    ap (λ m. fold max m xs) turned ∙ fold-from x 0 xs

pub each-most : (xs : List ℕ) (i : ℕ) → get_or xs i 0 ≤ greatest xs
each-most [] i = omega arith
each-most (x ∷ xs) zero = omega (arith, greatest-cons x xs)
each-most (x ∷ xs) (suc i) = omega (arith, greatest-cons x xs, each-most xs i)

-- ---- what each of both is

pub All-front : (P : ℕ → Type 0) (xs ys : List ℕ) → All P (xs ++ ys) → All P xs
All-front P xs ys each k d l = subst P (get_or_append_left xs ys d k l) (each k d (omega (arith, l, length-append xs ys)))

pub All-back : (P : ℕ → Type 0) (xs ys : List ℕ) → All P (xs ++ ys) → All P ys
All-back P xs ys each k d l = subst P (get_or-append-add xs ys k d) (each (length xs + k) d (omega (arith, l, length-append xs ys)))

-- ---- the first so many of both

pub front-of-both : (xs ys : List ℕ) (n : ℕ) → take n xs ++ take (n - length xs) ys ≡ take n (xs ++ ys)
front-of-both xs ys n = elim (cases_lt n (length xs)) [
  | inl inner ↦
      let none : n - length xs ≡ 0 = omega arith in
      ap (λ k. take n xs ++ take k ys) none ∙ append-nil (take n xs) ∙ sym (take-append-le n xs ys (omega arith))
  | inr outer ↦
      let whole : length xs + (n - length xs) ≡ n = omega arith in
      ap (λ l. l ++ take (n - length xs) ys) (take_all n xs outer) ∙ sym (take-append-add xs ys (n - length xs)) ∙ ap (λ k. take k (xs ++ ys)) whole
]
