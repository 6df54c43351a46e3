-- One step of counting starts: the least place is counted where it is a start, and then passed.
use Rattle.std.proofs.Common.{◌≡◌, ◌≢◌, ℕ, zero, suc, ◌+◌, ◌<◌, ◌≤◌, nat_le, min, max, Bool, true, false, ◌&&◌, ◌||◌, cond, List, [], ◌∷◌, ◌++◌, All, length}
use Rattle.std.proofs.Common.{map, drop, add-one, refl, ap, sym, ◌∙◌, arith, inl, inr}
use Rattle.std.specs.List.{count_by, list_all, range_with_len}
use Rattle.std.proofs.lemmas.Bool.{cases_lt, cases_eq, eq-eqb, ne_eqb, le-leb, lt-leb}
use Rattle.std.proofs.lemmas.List.Elements.{All-nil, All-cons, All-head, All-tail, All-map, All-weaker}
use Rattle.std.proofs.lemmas.List.Sums.{sum_by-cons}
use Rattle.std.proofs.lemmas.List.{drop_all}
use Rattle.std.proofs.Math.Bool.{and-false, or-true}
use Rattle.qm_postings.specs.Positions.{is_in, shifted}
use Rattle.qm_phrase.specs.Starts.{has_near, is_place, is_start, starts_below, starts, all_places}
use Rattle.qm_phrase.specs.Places.{Ascends, first_place, least_first_place, greatest_first_place, past}

-- Counting.

abbrev pub one_if : Bool → ℕ
one_if b = cond b 1 0

pub count_by-same : (p q : ℕ → Bool) (a n : ℕ) → ((y : ℕ) → a ≤ y → p y ≡ q y) → count_by p (range_with_len a n) ≡ count_by q (range_with_len a n)
count_by-same p q a zero same = refl
count_by-same p q a (suc n) same =
    let ds = range_with_len (a + 1) n in
    let rest = count_by-same p q (a + 1) n (λ y h. same y (omega arith)) in
    let here = ap one_if (same a (omega arith)) in
    omega (arith, sum_by-cons (λ x. one_if (p x)) a ds, sum_by-cons (λ x. one_if (q x)) a ds, here, rest)

-- two tests that agree but for one number, which the second lacks
count_by-split : (p q : ℕ → Bool) (x a n : ℕ) → a ≤ x → x < a + n → ((y : ℕ) → y ≢ x → p y ≡ q y) →
    q x ≡ false → count_by p (range_with_len a n) ≡ one_if (p x) + count_by q (range_with_len a n)
count_by-split p q x a zero low high same lacks = absurd (omega arith)
count_by-split p q x a (suc n) low high same lacks =
    let ds = range_with_len (a + 1) n in
    let first = sum_by-cons (λ y. one_if (p y)) a ds in
    let second = sum_by-cons (λ y. one_if (q y)) a ds in
    elim (cases_eq a x) [
      | inl here ↦
          let rest = count_by-same p q (a + 1) n (λ y h. same y (omega arith)) in
          omega (arith, first, second, ap (λ y. one_if (p y)) here, ap one_if (ap q here ∙ lacks), rest)
      | inr other ↦
          let rest = count_by-split p q x (a + 1) n (omega arith) (omega arith) same lacks in
          omega (arith, first, second, ap one_if (same a other), rest)
    ]

pub count_by-none : (p : ℕ → Bool) (a n : ℕ) → ((y : ℕ) → p y ≡ false) → count_by p (range_with_len a n) ≡ 0
count_by-none p a zero lacks = refl
count_by-none p a (suc n) lacks =
    omega (arith, sum_by-cons (λ y. one_if (p y)) a (range_with_len (a + 1) n), ap one_if (lacks a), count_by-none p (a + 1) n lacks)

-- One set.

pub Ascends-lower : (low least : ℕ) (s : List ℕ) → least ≤ low → Ascends low s → Ascends least s
Ascends-lower low least [] h a = tt
Ascends-lower low least (p ∷ ps) h a = (omega arith, a.1, a.2)

-- a set that ascends does so from its first place on
pub Ascends-first : (low : ℕ) (s : List ℕ) → low ≤ first_place s → Ascends 0 s → Ascends low s
Ascends-first low [] h a = tt
Ascends-first low (p ∷ ps) h a = (h, a.1, a.2)

pub is_in-below : (y low : ℕ) (s : List ℕ) → y < low → Ascends low s → is_in y s ≡ false
is_in-below y low [] h a = refl
is_in-below y low (p ∷ ps) h a = let rest = is_in-below y (p + 1) ps (omega arith) a.2 in rw (ne_eqb y p (omega arith)) rest

pub has_near-none : (slop x low : ℕ) (s : List ℕ) → x + slop < low → Ascends low s → has_near slop x s ≡ false
has_near-none slop x low [] h a = refl
has_near-none slop x low (p ∷ ps) h a =
    let rest = has_near-none slop x (p + 1) ps (omega arith) a.2 in
    rw (le-leb x p (omega arith), lt-leb p (x + slop) (omega arith)) rest

has_near-first : (slop x p : ℕ) (ps : List ℕ) → x ≤ p → Ascends (p + 1) ps → has_near slop x (p ∷ ps) ≡ nat_le p (x + slop)
has_near-first slop x p ps h a =
    elim (cases_lt (x + slop) p) [
      | inl far ↦ rw (le-leb x p h, lt-leb p (x + slop) far) (has_near-none slop x (p + 1) ps (omega arith) a)
      | inr near ↦ rw (le-leb x p h, le-leb p (x + slop) near) refl
    ]

is_in-past_other : (y x : ℕ) (s : List ℕ) → y ≢ x → is_in y (past x s) ≡ is_in y s
is_in-past_other y x [] other = refl
is_in-past_other y x (p ∷ ps) other =
    elim (cases_eq p x) [
      | inl here ↦ rw (eq-eqb p x here, ne_eqb y p (omega arith)) refl
      | inr apart ↦ rw (ne_eqb p x apart) refl
    ]

is_in-past_here : (x : ℕ) (s : List ℕ) → Ascends x s → is_in x (past x s) ≡ false
is_in-past_here x [] a = refl
is_in-past_here x (p ∷ ps) a =
    elim (cases_eq p x) [
      | inl here ↦ rw (eq-eqb p x here) (is_in-below x (p + 1) ps (omega arith) a.2)
      | inr apart ↦ rw (ne_eqb p x apart) (is_in-below x p (p ∷ ps) (omega arith) (omega arith, a.1, a.2))
    ]

has_near-past : (slop y x : ℕ) (s : List ℕ) → x < y → has_near slop y (past x s) ≡ has_near slop y s
has_near-past slop y x [] h = refl
has_near-past slop y x (p ∷ ps) h =
    elim (cases_eq p x) [
      | inl here ↦ rw (eq-eqb p x here, lt-leb y p (omega arith)) refl
      | inr apart ↦ rw (ne_eqb p x apart) refl
    ]

pub Ascends-past : (low x : ℕ) (s : List ℕ) → Ascends low s → Ascends low (past x s)
Ascends-past low x [] a = tt
Ascends-past low x (p ∷ ps) a =
    elim (cases_eq p x) [
      | inl here ↦ rw (eq-eqb p x here) (Ascends-lower (p + 1) low ps (omega arith) a.2)
      | inr apart ↦ rw (ne_eqb p x apart) a
    ]

pub first_place-ascends : (low : ℕ) (s : List ℕ) → low ≤ all_places → Ascends low s → low ≤ first_place s
first_place-ascends low [] h a = h
first_place-ascends low (p ∷ ps) h a = a.0

first_place-past : (x : ℕ) (s : List ℕ) → x < all_places → Ascends x s → x < first_place (past x s)
first_place-past x [] h a = h
first_place-past x (p ∷ ps) h a =
    elim (cases_eq p x) [
      | inl here ↦ rw (eq-eqb p x here) (let least = first_place-ascends (p + 1) ps (omega arith) a.2 in omega arith)
      | inr apart ↦ rw (ne_eqb p x apart) (omega arith)
    ]

-- All sets.

is_place-past_other : (y x : ℕ) (sets : List (List ℕ)) → y ≢ x → is_place (map (past x) sets) y ≡ is_place sets y
is_place-past_other y x [] other = refl
is_place-past_other y x (s ∷ sets) other = rw (is_in-past_other y x s other, is_place-past_other y x sets other) refl

is_place-past_here : (x : ℕ) (sets : List (List ℕ)) → All (Ascends x) sets → is_place (map (past x) sets) x ≡ false
is_place-past_here x [] all = refl
is_place-past_here x (s ∷ sets) all = rw (is_in-past_here x s (All-head (Ascends x) s sets all)) (is_place-past_here x sets (All-tail (Ascends x) s sets all))

is_place-below : (y x : ℕ) (sets : List (List ℕ)) → y < x → All (Ascends x) sets → is_place sets y ≡ false
is_place-below y x [] h all = refl
is_place-below y x (s ∷ sets) h all = rw (is_in-below y x s h (All-head (Ascends x) s sets all)) (is_place-below y x sets h (All-tail (Ascends x) s sets all))

near-past : (slop y x : ℕ) (sets : List (List ℕ)) → x < y → list_all (λ s. has_near slop y s) (map (past x) sets) ≡ list_all (λ s. has_near slop y s) sets
near-past slop y x [] h = refl
near-past slop y x (s ∷ sets) h = rw (has_near-past slop y x s h, near-past slop y x sets h) refl

pub All-past : (low x : ℕ) (sets : List (List ℕ)) → All (Ascends low) sets → All (Ascends low) (map (past x) sets)
All-past low x sets all = All-map (Ascends low) (past x) sets (All-weaker (Ascends low) (λ s. Ascends low (past x s)) (Ascends-past low x) sets all)

-- behind the place that some begin with, the same numbers are starts, but for that one
pub is_start-past : (slop x : ℕ) (sets : List (List ℕ)) → All (Ascends x) sets → (y : ℕ) → y ≢ x → is_start slop sets y ≡ is_start slop (map (past x) sets) y
is_start-past slop x sets all y other =
    elim (cases_lt y x) [
      | inl below ↦ rw (is_place-past_other y x sets other, is_place-below y x sets below all) refl
      | inr beyond ↦ rw (is_place-past_other y x sets other, near-past slop y x sets (omega arith)) refl
    ]

pub is_start-past_here : (slop x : ℕ) (sets : List (List ℕ)) → All (Ascends x) sets → is_start slop (map (past x) sets) x ≡ false
is_start-past_here slop x sets all = rw (is_place-past_here x sets all) refl

starts_below-step : (slop x n : ℕ) (sets : List (List ℕ)) → x < n → All (Ascends x) sets →
    starts_below slop sets n ≡ one_if (is_start slop sets x) + starts_below slop (map (past x) sets) n
unfolding starts_below
starts_below-step slop x n sets h all =
    count_by-split (is_start slop sets) (is_start slop (map (past x) sets)) x 0 n (omega arith)
    (omega arith) (is_start-past slop x sets all) (is_start-past_here slop x sets all)

-- the starts are the place that some begin with, where it is one, and those behind it
pub starts-step : (slop x : ℕ) (sets : List (List ℕ)) → x < all_places → All (Ascends x) sets →
    starts slop sets ≡ one_if (is_start slop sets x) + starts slop (map (past x) sets)
unfolding starts
starts-step slop x sets h all = starts_below-step slop x all_places sets h all

starts_below-none : (slop n : ℕ) (sets : List (List ℕ)) → ((y : ℕ) → is_start slop sets y ≡ false) → starts_below slop sets n ≡ 0
unfolding starts_below
starts_below-none slop n sets lacks = count_by-none (is_start slop sets) 0 n lacks

pub starts-none : (slop : ℕ) (sets : List (List ℕ)) → ((y : ℕ) → is_start slop sets y ≡ false) → starts slop sets ≡ 0
unfolding starts
starts-none slop sets lacks = starts_below-none slop all_places sets lacks

-- sets with the same starts have as many
starts_below-same : (slop n : ℕ) (sets others : List (List ℕ)) → ((y : ℕ) → is_start slop sets y ≡ is_start slop others y) →
    starts_below slop sets n ≡ starts_below slop others n
unfolding starts_below
starts_below-same slop n sets others same = count_by-same (is_start slop sets) (is_start slop others) 0 n (λ y h. same y)

pub starts-same : (slop : ℕ) (sets others : List (List ℕ)) → ((y : ℕ) → is_start slop sets y ≡ is_start slop others y) →
    starts slop sets ≡ starts slop others
unfolding starts
starts-same slop sets others same = starts_below-same slop all_places sets others same

-- The first places.

nat_le-max : (a b n : ℕ) → (nat_le a n && nat_le b n) ≡ nat_le (max a b) n
nat_le-max a b n =
    elim (cases_lt n a) [
      | inl over ↦ rw (lt-leb a n over, lt-leb (max a b) n (omega arith)) refl
      | inr within ↦ elim (cases_lt n b) [
        | inl over ↦ rw (le-leb a n within, lt-leb b n over, lt-leb (max a b) n (omega arith)) refl
        | inr least ↦ rw (le-leb a n within, le-leb b n least, le-leb (max a b) n (omega arith)) refl
      ]
    ]

-- all ascend from the least of their first places on
pub All-least : (low : ℕ) (sets : List (List ℕ)) → low ≤ least_first_place sets → All (Ascends 0) sets → All (Ascends low) sets
All-least low [] h all = All-nil (Ascends low)
All-least low (s ∷ sets) h all =
    All-cons (Ascends low) s sets (Ascends-first low s (omega arith) (All-head (Ascends 0) s sets all))
    (All-least low sets (omega arith) (All-tail (Ascends 0) s sets all))

is_place-least : (x : ℕ) (sets : List (List ℕ)) → x ≡ least_first_place sets → x < all_places → is_place sets x ≡ true
is_place-least x [] h below = absurd (omega arith)
is_place-least x ([] ∷ sets) h below = is_place-least x sets (omega arith) below
is_place-least x ((p ∷ ps) ∷ sets) h below =
    elim (cases_eq x p) [
      | inl here ↦ rw (eq-eqb x p here) refl
      | inr other ↦ rw (is_place-least x sets (omega arith) below) (or-true (is_in x (p ∷ ps)))
    ]

near-greatest : (slop x : ℕ) (sets : List (List ℕ)) → greatest_first_place sets < all_places →
    All (Ascends x) sets → list_all (λ s. has_near slop x s) sets ≡ nat_le (greatest_first_place sets) (x + slop)
near-greatest slop x [] h all = sym (le-leb 0 (x + slop) (omega arith))
near-greatest slop x ([] ∷ sets) h all = absurd (omega arith)
near-greatest slop x ((p ∷ ps) ∷ sets) h all =
    let here = All-head (Ascends x) (p ∷ ps) sets all in
    let rest = near-greatest slop x sets (omega arith) (All-tail (Ascends x) (p ∷ ps) sets all) in
    rw (has_near-first slop x p ps here.0 here.2, rest) (nat_le-max p (greatest_first_place sets) (x + slop))

-- the least place is a start exactly where the greatest of the first places is within the slop
pub is_start-least : (slop x : ℕ) (sets : List (List ℕ)) → x ≡ least_first_place sets → x < all_places →
    greatest_first_place sets < all_places → All (Ascends x) sets → is_start slop sets x ≡ nat_le (greatest_first_place sets) (x + slop)
is_start-least slop x sets least below h all = rw (is_place-least x sets least below) (near-greatest slop x sets h all)

-- where a set has no place left, there is no start
pub near-empty : (slop y : ℕ) (sets : List (List ℕ)) → greatest_first_place sets ≡ all_places → All (Ascends 0) sets → list_all (λ s. has_near slop y s) sets ≡ false
near-empty slop y [] h all = absurd (omega arith)
near-empty slop y ([] ∷ sets) h all = refl
near-empty slop y ((p ∷ ps) ∷ sets) h all =
    let here = All-head (Ascends 0) (p ∷ ps) sets all in
    rw (near-empty slop y sets (omega arith) (All-tail (Ascends 0) (p ∷ ps) sets all)) (and-false (has_near slop y (p ∷ ps)))

pub starts-ended : (slop : ℕ) (sets : List (List ℕ)) → greatest_first_place sets ≡ all_places → All (Ascends 0) sets → starts slop sets ≡ 0
starts-ended slop sets h all = starts-none slop sets (λ y. rw (near-empty slop y sets h all) (and-false (is_place sets y)))

pub least_first_place-le : (sets : List (List ℕ)) → 0 < length sets → least_first_place sets ≤ greatest_first_place sets
least_first_place-le [] h = absurd (omega arith)
least_first_place-le (s ∷ sets) h = omega arith

pub greatest_first_place-most : (sets : List (List ℕ)) → All (Ascends 0) sets → greatest_first_place sets ≤ all_places
greatest_first_place-most [] all = omega arith
greatest_first_place-most ([] ∷ sets) all = omega (arith, greatest_first_place-most sets (All-tail (Ascends 0) [] sets all))
greatest_first_place-most ((p ∷ ps) ∷ sets) all =
    let here = All-head (Ascends 0) (p ∷ ps) sets all in
    omega (arith, greatest_first_place-most sets (All-tail (Ascends 0) (p ∷ ps) sets all))

first_place-past_most : (x : ℕ) (s : List ℕ) → Ascends 0 s → first_place s ≤ first_place (past x s)
first_place-past_most x [] a = omega arith
first_place-past_most x (p ∷ ps) a =
    elim (cases_eq p x) [
      | inl here ↦ rw (eq-eqb p x here) (let least = first_place-ascends (p + 1) ps (omega (arith, a.1)) a.2 in omega arith)
      | inr apart ↦ rw (ne_eqb p x apart) (omega arith)
    ]

-- behind a place that some begin with, all begin no earlier
pub greatest_first_place-past : (x : ℕ) (sets : List (List ℕ)) → All (Ascends 0) sets → greatest_first_place sets ≤ greatest_first_place (map (past x) sets)
greatest_first_place-past x [] all = omega arith
greatest_first_place-past x (s ∷ sets) all =
    omega (arith, first_place-past_most x s (All-head (Ascends 0) s sets all), greatest_first_place-past x sets (All-tail (Ascends 0) s sets all))

-- a pass moves the least place on
pub least_first_place-past : (x : ℕ) (sets : List (List ℕ)) → x < all_places → All (Ascends x) sets → x < least_first_place (map (past x) sets)
least_first_place-past x [] h all = h
least_first_place-past x (s ∷ sets) h all =
    omega (arith, first_place-past x s h (All-head (Ascends x) s sets all), least_first_place-past x sets h (All-tail (Ascends x) s sets all))

-- what is known where some set has a least place
pub within : (sets : List (List ℕ)) (least greatest : ℕ) → 0 < length sets → least ≡ least_first_place sets → greatest ≡ greatest_first_place sets →
    (greatest ≡ all_places → ⊥) → All (Ascends 0) sets → (least < all_places) × (greatest_first_place sets < all_places) × All (Ascends least) sets
within sets least greatest some is most here all =
    let below : greatest_first_place sets < all_places = omega (arith, greatest_first_place-most sets all) in
    let under : least < all_places = omega (arith, least_first_place-le sets some) in
    (under, below, All-least least sets (omega arith) all)

-- the place is counted exactly where the greatest is within the slop
pub counted : (sets : List (List ℕ)) (slop least : ℕ) → least ≡ least_first_place sets → least < all_places → greatest_first_place sets < all_places →
    All (Ascends least) sets → (greatest_first_place sets ≤ least + slop → starts slop sets ≡ 1 + starts slop (map (past least) sets)) ×
    (least + slop < greatest_first_place sets → starts slop sets ≡ starts slop (map (past least) sets))
counted sets slop least is under below all =
    let step = starts-step slop least sets under all in
    let start = is_start-least slop least sets is under below all in (
      (λ near. omega (arith, step, ap one_if (start ∙ le-leb (greatest_first_place sets) (least + slop) near))),
      (λ far. omega (arith, step, ap one_if (start ∙ lt-leb (greatest_first_place sets) (least + slop) far))),
    )

-- one more set
pub least_first_place-push : (sets : List (List ℕ)) (s : List ℕ) → least_first_place (sets ++ s ∷ []) ≡ min (first_place s) (least_first_place sets)
least_first_place-push [] s = refl
least_first_place-push (t ∷ sets) s = omega (arith, least_first_place-push sets s)

pub greatest_first_place-push : (sets : List (List ℕ)) (s : List ℕ) → greatest_first_place (sets ++ s ∷ []) ≡ max (first_place s) (greatest_first_place sets)
greatest_first_place-push [] s = refl
greatest_first_place-push (t ∷ sets) s = omega (arith, greatest_first_place-push sets s)

-- the first place is passed
pub past-first : (x shift n : ℕ) (ps : List ℕ) → x < all_places → first_place (shifted shift (drop n ps)) ≡ x →
    shifted shift (drop (n + 1) ps) ≡ past x (shifted shift (drop n ps))
past-first x shift n [] below first = absurd (omega (arith, ap (λ r. first_place (shifted shift r)) (drop_all n [] (omega arith))))
past-first x shift zero (p ∷ ps) below first = rw (eq-eqb (p + shift) x first) refl
past-first x shift (suc n) (p ∷ ps) below first = rw add-one (rw add-one at (past-first x shift n ps below first))
