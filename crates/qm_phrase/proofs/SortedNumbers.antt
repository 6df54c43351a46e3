-- Lists of numbers that ascend strictly: two with the same members are equal. And what a sort, and a
-- removal of repeats, leave.
use Rattle.std.proofs.Common.{◌≡◌, ℕ, zero, suc, ◌+◌, ◌<◌, ◌≤◌, ◌==◌, ◌||◌, Bool, true, false, List, [], ◌∷◌, All, refl, ap, sym, subst, ◌∙◌, arith, inl, inr}
use Rattle.std.specs.List.{AllPairs, dedup}
use Rattle.std.specs.List.Retain.{DiffersFromLast, IsFiltered}
use Rattle.std.specs.List.Sorted.{IsPermutation, IsSorted, IsStrictlyIncreasing}
use Rattle.std.specs.Ordering.{nat_cmp}
use Rattle.std.proofs.lemmas.Bool.{cases_lt, cases_order, eq-eqb, eqb-true, ne_eqb}
use Rattle.std.proofs.lemmas.Cmp.{nat_eq_equiv}
use Rattle.std.proofs.lemmas.List.Elements.{All-head}
use Rattle.std.proofs.lemmas.List.Filters.{dedup_is}
use Rattle.std.proofs.lemmas.List.Kept.{AllPairs-from_increasing, Contains-dedup_nat, Contains-from_dedup}
use Rattle.std.proofs.lemmas.List.Sorted.{list_any-IsPermutation}
use Rattle.std.proofs.lemmas.Map.Keys.{IsStrictlyIncreasing-dedup}
use Rattle.std.proofs.lemmas.Map.Views.{Contains-from_any, list_any-from_Contains}
use Rattle.qm_postings.specs.Positions.{ArePositions, HasAdded, is_in, shifted}
use Rattle.qm_postings.specs.Segment.{AscendFrom}

-- numbers ascend strictly from `low` on
abbrev pub RisesFrom : ℕ → List ℕ → Type 0
RisesFrom low [] = Unit {0}
RisesFrom low (x ∷ xs) = (low ≤ x) × RisesFrom (x + 1) xs

RisesFrom-pairs : (low : ℕ) (xs : List ℕ) → All (λ x. low ≤ x) xs → AllPairs (λ x y. x < y) xs → RisesFrom low xs
RisesFrom-pairs low [] all pairs = tt
RisesFrom-pairs low (x ∷ xs) all pairs =
    let past : All (λ y. x + 1 ≤ y) xs = λ k d below. (let h = pairs zero (suc k) d (omega arith) (omega arith) in omega arith) in
    let rest : AllPairs (λ y z. y < z) xs = λ i j d less below. pairs (suc i) (suc j) d (omega arith) (omega arith) in
    (All-head (λ y. low ≤ y) x xs all, RisesFrom-pairs (x + 1) xs past rest)

pub RisesFrom-increasing : (xs : List ℕ) → IsStrictlyIncreasing xs → RisesFrom 0 xs
RisesFrom-increasing xs h = RisesFrom-pairs 0 xs (λ k d below. omega arith) (AllPairs-from_increasing xs h)

RisesFrom-low : (low least : ℕ) (xs : List ℕ) → least ≤ low → RisesFrom low xs → RisesFrom least xs
RisesFrom-low low least [] h a = tt
RisesFrom-low low least (x ∷ xs) h a = (omega arith, a.1)

-- shifted positions ascend
RisesFrom-shifted : (offset low : ℕ) (ps : List ℕ) → AscendFrom low ps → RisesFrom (low + offset) (shifted offset ps)
RisesFrom-shifted offset low [] a = tt
RisesFrom-shifted offset low (p ∷ ps) a =
    let next : p + 1 + offset ≡ p + offset + 1 = omega arith in
    (omega arith, subst (λ n. RisesFrom n (shifted offset ps)) next (RisesFrom-shifted offset (p + 1) ps a.2))

pub RisesFrom-positions : (offset : ℕ) (ps : List ℕ) → AscendFrom 0 ps → RisesFrom 0 (shifted offset ps)
RisesFrom-positions offset ps a = RisesFrom-low (0 + offset) 0 (shifted offset ps) (omega arith) (RisesFrom-shifted offset 0 ps a)

-- no number below them is among them
is_in-before : (y low : ℕ) (xs : List ℕ) → y < low → RisesFrom low xs → is_in y xs ≡ false
is_in-before y low [] h a = refl
is_in-before y low (x ∷ xs) h a = let rest = is_in-before y (x + 1) xs (omega arith) a.1 in rw (ne_eqb y x (omega arith)) rest

is_in-first : (x : ℕ) (xs : List ℕ) → is_in x (x ∷ xs) ≡ true
is_in-first x xs = rw (eq-eqb x x refl) refl

-- Two with the same members are equal.
pub same_rising : (low : ℕ) (xs ys : List ℕ) → RisesFrom low xs → RisesFrom low ys → ((x : ℕ) → is_in x xs ≡ is_in x ys) → xs ≡ ys
same_rising low [] [] a b same = refl
same_rising low [] (y ∷ ys) a b same = absurd (cc (same y, is_in-first y ys))
same_rising low (x ∷ xs) [] a b same = absurd (cc (same x, is_in-first x xs))
same_rising low (x ∷ xs) (y ∷ ys) a b same =
    elim (cases_order x y) [
      | inl level ↦
          let rest : xs ≡ ys = same_rising (x + 1) xs ys a.1 (rw level b.1) (λ z.
          elim (cases_lt z (x + 1)) [
            | inl before ↦ is_in-before z (x + 1) xs before a.1 ∙ sym (is_in-before z (y + 1) ys (omega arith) b.1)
            | inr past ↦ rw (ne_eqb z x (omega arith), ne_eqb z y (omega arith)) at (same z)
          ]) in
          cc
      | inr apart ↦ elim apart [
        | inl less ↦ absurd (cc (same x, is_in-first x xs, is_in-before x y (y ∷ ys) less (omega arith, b.1)))
        | inr more ↦ absurd (cc (same y, is_in-first y ys, is_in-before y x (x ∷ xs) more (omega arith, a.1)))
      ]
    ]

-- ---- a sort, and a removal of repeats

pub both_ways : (a b : Bool) → (a ≡ true → b ≡ true) → (b ≡ true → a ≡ true) → a ≡ b
both_ways true b forth back = sym (forth refl)
both_ways false true forth back = back refl
both_ways false false forth back = refl

is_in-dedup : (x : ℕ) (xs : List ℕ) → is_in x (dedup (λ a b. a == b) xs) ≡ is_in x xs
is_in-dedup x xs =
    both_ways (is_in x (dedup (λ a b. a == b) xs)) (is_in x xs)
    (λ here. list_any-from_Contains nat_eq_equiv x xs (Contains-from_dedup (λ a b. a == b) xs x (Contains-from_any eqb-true x (dedup (λ a b. a == b) xs) here)))
    (λ here. list_any-from_Contains nat_eq_equiv x (dedup (λ a b. a == b) xs) (Contains-dedup_nat xs x (Contains-from_any eqb-true x xs here)))

-- they keep the members
pub is_in-tidied : (x : ℕ) (before sorted after : List ℕ) → IsPermutation before sorted →
    IsFiltered (DiffersFromLast (λ a b. a == b)) [] sorted after → is_in x after ≡ is_in x before
is_in-tidied x before sorted after moved filtered =
    ap (is_in x) (dedup_is (λ a b. a == b) sorted after filtered) ∙ is_in-dedup x sorted ∙ sym (list_any-IsPermutation (λ y. x == y) before sorted moved)

-- and the numbers ascend
pub IsStrictlyIncreasing-tidied : (sorted after : List ℕ) → IsSorted nat_cmp sorted →
    IsFiltered (DiffersFromLast (λ a b. a == b)) [] sorted after → IsStrictlyIncreasing after
IsStrictlyIncreasing-tidied sorted after rises filtered = rw (dedup_is (λ a b. a == b) sorted after filtered) (IsStrictlyIncreasing-dedup sorted rises)

-- Where nothing stood in an output, an ascending one has just the positions that were added.
pub alone : (offset : ℕ) (old new ps : List ℕ) → old ≡ [] → ArePositions ps →
    HasAdded (shifted offset ps) old new → IsStrictlyIncreasing new → new ≡ shifted offset ps
alone offset old new ps none ascends added rises =
    same_rising 0 new (shifted offset ps) (RisesFrom-increasing new rises) (RisesFrom-positions offset ps ascends)
    (λ x. added x ∙ ap (λ r. is_in x r || is_in x (shifted offset ps)) none)
