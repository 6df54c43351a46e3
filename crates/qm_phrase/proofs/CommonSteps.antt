-- The places that all of some sets have: as starts without slop, and collected one after another.
use Rattle.std.proofs.Common.{◌≡◌, ◌≢◌, ℕ, zero, suc, ◌+◌, ◌<◌, ◌≤◌, Bool, true, false, ◌&&◌, ◌||◌, ◌==◌, List, [], ◌∷◌, ◌++◌, All, length, map, get_or, refl}
use Rattle.std.proofs.Common.{ap, sym, ◌∙◌, arith, inl, inr}
use Rattle.std.specs.List.{count_by, list_all, range_with_len, sum_by}
use Rattle.std.proofs.lemmas.Bool.{cases_Bool, cases_lt, cases_eq, eq-eqb, ne_eqb, le-leb, lt-leb}
use Rattle.std.proofs.lemmas.List.Elements.{All-nil, All-cons, All-head, All-tail}
use Rattle.std.proofs.lemmas.List.Folds.{list_any-append}
use Rattle.std.proofs.lemmas.List.Sums.{sum_by-cons}
use Rattle.std.proofs.lemmas.List.{length-append}
use Rattle.std.proofs.Math.Bool.{or-false, and-true, and-false, or-true}
use Rattle.qm_postings.specs.Positions.{is_in}
use Rattle.qm_phrase.specs.PhrasePrefix.{IsCommonOf, common_below, common_count, is_common}
use Rattle.qm_phrase.specs.Places.{Ascends, first_place, greatest_first_place, least_first_place, past}
use Rattle.qm_phrase.specs.Starts.{all_places, has_near, is_place, is_start, starts, starts_below}
use Rattle.qm_phrase.proofs.StartSteps.{All-least, All-past, count_by-none, count_by-same, is_start-least, is_start-past, is_start-past_here}
use Rattle.qm_phrase.proofs.StartSteps.{least_first_place-past, near-empty, one_if, starts-ended, starts-step}

-- A place that all have is a start without slop.

has_near-zero : (x : ℕ) (s : List ℕ) → has_near 0 x s ≡ is_in x s
has_near-zero x [] = refl
has_near-zero x (q ∷ s) =
    let rest = has_near-zero x s in
    elim (cases_eq x q) [
      | inl here ↦ rw (eq-eqb x q here, le-leb x q (omega arith), le-leb q (x + 0) (omega arith)) refl
      | inr other ↦ elim (cases_lt q x) [
        | inl below ↦ rw (ne_eqb x q other, lt-leb x q below) rest
        | inr past ↦ rw (ne_eqb x q other, le-leb x q past, lt-leb q (x + 0) (omega arith)) rest
      ]
    ]

near-zero : (x : ℕ) (sets : List (List ℕ)) → list_all (λ s. has_near 0 x s) sets ≡ is_common sets x
near-zero x [] = refl
near-zero x (s ∷ sets) = rw (has_near-zero x s, near-zero x sets) refl

pub is_start-zero : (x : ℕ) (sets : List (List ℕ)) → 0 < length sets → is_start 0 sets x ≡ is_common sets x
is_start-zero x [] some = absurd (omega arith)
is_start-zero x (s ∷ sets) some =
    ap (λ b. is_place (s ∷ sets) x && b) (near-zero x (s ∷ sets)) ∙ elim (cases_Bool (is_in x s)) [
      | inl has ↦ rw has refl
      | inr lacks ↦ rw lacks (and-false (is_place sets x))
    ]

common_below-starts : (sets : List (List ℕ)) (n : ℕ) → 0 < length sets → common_below sets n ≡ starts_below 0 sets n
unfolding common_below starts_below
common_below-starts sets n some = count_by-same (is_common sets) (is_start 0 sets) 0 n (λ y h. sym (is_start-zero y sets some))

pub common-starts : (sets : List (List ℕ)) → 0 < length sets → common_count sets ≡ starts 0 sets
unfolding common_count starts
common-starts sets some = common_below-starts sets all_places some

-- Counting.

common_below-same : (sets others : List (List ℕ)) (n : ℕ) → ((x : ℕ) → is_common sets x ≡ is_common others x) → common_below sets n ≡ common_below others n
unfolding common_below
common_below-same sets others n same = count_by-same (is_common sets) (is_common others) 0 n (λ y h. same y)

pub common-same : (sets others : List (List ℕ)) → ((x : ℕ) → is_common sets x ≡ is_common others x) → common_count sets ≡ common_count others
unfolding common_count
common-same sets others same = common_below-same sets others all_places same

common_below-none : (sets : List (List ℕ)) (n : ℕ) → ((x : ℕ) → is_common sets x ≡ false) → common_below sets n ≡ 0
unfolding common_below
common_below-none sets n none = count_by-none (is_common sets) 0 n none

common-none : (sets : List (List ℕ)) → ((x : ℕ) → is_common sets x ≡ false) → common_count sets ≡ 0
unfolding common_count
common-none sets none = common_below-none sets all_places none

-- a set without places has none in common with others
pub common-lacks : (sets : List (List ℕ)) → common_count ([] ∷ sets) ≡ 0
common-lacks sets = common-none ([] ∷ sets) (λ x. refl)

one_if-and : (a b : Bool) → one_if (a && b) ≤ one_if b
one_if-and true b = omega arith
one_if-and false b = omega arith

count_by-fewer : (p q : ℕ → Bool) (a n : ℕ) → count_by (λ y. p y && q y) (range_with_len a n) ≤ count_by q (range_with_len a n)
count_by-fewer p q a zero = omega arith
count_by-fewer p q a (suc n) =
    let ds = range_with_len (a + 1) n in
    omega (arith, sum_by-cons (λ y. one_if (p y && q y)) a ds, sum_by-cons (λ y. one_if (q y)) a ds, one_if-and (p a) (q a), count_by-fewer p q (a + 1) n)

common_below-fewer : (s : List ℕ) (sets : List (List ℕ)) (n : ℕ) → common_below (s ∷ sets) n ≤ common_below sets n
unfolding common_below
common_below-fewer s sets n = count_by-fewer (λ x. is_in x s) (is_common sets) 0 n

-- one more set has no more in common
pub common-fewer : (s : List ℕ) (sets : List (List ℕ)) → common_count (s ∷ sets) ≤ common_count sets
unfolding common_count
common-fewer s sets = common_below-fewer s sets all_places

-- the list of the common places stands for the sets
pub common-listed : (sets : List (List ℕ)) (places s : List ℕ) → IsCommonOf sets places → common_count (s ∷ places ∷ []) ≡ common_count (s ∷ sets)
common-listed sets places s is =
    common-same (s ∷ places ∷ []) (s ∷ sets) (λ x. ap (λ b. is_in x s && b) (and-true (is_in x places) ∙ is.members x))

-- Collecting: the places that were found, and what the sets that are left have in common.

pub record IsCollected (all left : List (List ℕ)) (found : List ℕ) : Type 0 where
  pub rows : All (Ascends 0) left
  pub ascends : Ascends 0 found
  pub below : All (λ p. p < least_first_place left) found
  pub members : (x : ℕ) → (is_in x found || is_start 0 left x) ≡ is_start 0 all x
  pub number : length found + starts 0 left ≡ starts 0 all

pub collected-none : (sets : List (List ℕ)) → All (Ascends 0) sets → IsCollected sets sets []
collected-none sets rows = record {
  rows = rows;
  ascends = tt;
  below = All-nil (λ p. p < least_first_place sets);
  members = λ x. refl;
  number = omega arith;
}

Ascends-push : (low x : ℕ) (ps : List ℕ) → low ≤ x → x < all_places → All (λ p. p < x) ps → Ascends low ps → Ascends low (ps ++ x ∷ [])
Ascends-push low x [] h under below a = (h, under, tt)
Ascends-push low x (p ∷ ps) h under below a =
    let Below : ℕ → Type 0 = λ p. p < x in
    let first = All-head Below p ps below in
    (a.0, a.1, Ascends-push (p + 1) x ps (omega arith) under (All-tail Below p ps below) a.2)

below-push : (x n : ℕ) (ps : List ℕ) → x < n → All (λ p. p < x) ps → All (λ p. p < n) (ps ++ x ∷ [])
below-push x n [] h all = All-cons (λ p. p < n) x [] h (All-nil (λ p. p < n))
below-push x n (p ∷ ps) h all =
    let Below : ℕ → Type 0 = λ p. p < x in
    let first = All-head Below p ps all in
    All-cons (λ p. p < n) p (ps ++ x ∷ []) (omega arith) (below-push x n ps h (All-tail Below p ps all))

pub below-later : (x n : ℕ) (ps : List ℕ) → x ≤ n → All (λ p. p < x) ps → All (λ p. p < n) ps
below-later x n [] h all = All-nil (λ p. p < n)
below-later x n (p ∷ ps) h all =
    let Below : ℕ → Type 0 = λ p. p < x in
    let first = All-head Below p ps all in
    All-cons (λ p. p < n) p ps (omega arith) (below-later x n ps h (All-tail Below p ps all))

is_in-push_here : (x y : ℕ) (ps : List ℕ) → y ≡ x → is_in y (ps ++ x ∷ []) ≡ true
is_in-push_here x y ps same = list_any-append (λ p. y == p) ps (x ∷ []) ∙ rw (eq-eqb y x same) (or-true (is_in y ps))

is_in-push_other : (x y : ℕ) (ps : List ℕ) → y ≢ x → is_in y (ps ++ x ∷ []) ≡ is_in y ps
is_in-push_other x y ps other = list_any-append (λ p. y == p) ps (x ∷ []) ∙ rw (ne_eqb y x other) (or-false (is_in y ps))

-- a place that all begin with is found
pub collected-common : (all left : List (List ℕ)) (found : List ℕ) (x : ℕ) → x ≡ least_first_place left → x ≡ greatest_first_place left →
    x < all_places → IsCollected all left found → IsCollected all (map (past x) left) (found ++ x ∷ [])
collected-common all left found x least greatest under was =
    let rows = All-least x left (omega arith) was.rows in
    let below : All (λ p. p < x) found = below-later (least_first_place left) x found (omega arith) was.below in
    let start : is_start 0 left x ≡ true = is_start-least 0 x left least under (omega arith) rows ∙ le-leb (greatest_first_place left) (x + 0) (omega arith) in
    let step = starts-step 0 x left under rows in
    record {
      rows = All-past 0 x left was.rows;
      ascends = Ascends-push 0 x found (omega arith) under below was.ascends;
      below = below-push x (least_first_place (map (past x) left)) found (least_first_place-past x left under rows) below;
      members = λ y. elim (cases_eq y x) [
        | inl same ↦
            let found_here = is_in-push_here x y found same in
            let starts_here : is_start 0 left y ≡ true = ap (is_start 0 left) same ∙ start in
            ap (λ b. b || is_start 0 (map (past x) left) y) found_here ∙ sym (or-true (is_in y found))
            ∙ ap (λ b. is_in y found || b) (sym starts_here) ∙ was.members y
        | inr other ↦
            ap (λ b. b || is_start 0 (map (past x) left) y) (is_in-push_other x y found other)
            ∙ ap (λ b. is_in y found || b) (sym (is_start-past 0 x left rows y other)) ∙ was.members y
      ];
      number = omega (arith, length-append found (x ∷ []), step, ap one_if start, was.number);
    }

-- a place that one lacks is not
pub collected-skip : (all left : List (List ℕ)) (found : List ℕ) (x : ℕ) → x ≡ least_first_place left → x < greatest_first_place left →
    greatest_first_place left < all_places → IsCollected all left found → IsCollected all (map (past x) left) found
collected-skip all left found x least greatest under was =
    let rows = All-least x left (omega arith) was.rows in
    let below : x < all_places = omega arith in
    let start : is_start 0 left x ≡ false = is_start-least 0 x left least below under rows ∙ lt-leb (greatest_first_place left) (x + 0) (omega arith) in
    let step = starts-step 0 x left below rows in
    let past_least = least_first_place-past x left below rows in
    record {
      rows = All-past 0 x left was.rows;
      ascends = was.ascends;
      below = below-later (least_first_place left) (least_first_place (map (past x) left)) found (omega arith) was.below;
      members = λ y. elim (cases_eq y x) [
        | inl same ↦
            let lacks : is_start 0 left y ≡ false = ap (is_start 0 left) same ∙ start in
            let lacks_new : is_start 0 (map (past x) left) y ≡ false = ap (is_start 0 (map (past x) left)) same ∙ is_start-past_here 0 x left rows in
            ap (λ b. is_in y found || b) (lacks_new ∙ sym lacks) ∙ was.members y
        | inr other ↦ ap (λ b. is_in y found || b) (sym (is_start-past 0 x left rows y other)) ∙ was.members y
      ];
      number = omega (arith, step, ap one_if start, was.number);
    }

-- where a set has no place left, all are found
pub collected-all : (all left : List (List ℕ)) (found : List ℕ) → 0 < length all →
    greatest_first_place left ≡ all_places → IsCollected all left found → IsCommonOf all found
collected-all all left found some ended was = record {
  ascends = was.ascends;
  members = λ x.
      let none : is_start 0 left x ≡ false = ap (λ b. is_place left x && b) (near-empty 0 x left ended was.rows) ∙ and-false (is_place left x) in
      sym (or-false (is_in x found)) ∙ ap (λ b. is_in x found || b) (sym none) ∙ was.members x ∙ is_start-zero x all some;
  number = omega (arith, starts-ended 0 left ended was.rows, was.number, common-starts all some);
}

-- The first set.

pub first-common : (x : ℕ) (sets : List (List ℕ)) → 0 < length sets → x ≡ least_first_place sets → x ≡ greatest_first_place sets → first_place (get_or sets 0 []) ≡ x
first-common x [] some least greatest = absurd (omega arith)
first-common x (s ∷ sets) some least greatest = omega arith

pub shorter-common : (x : ℕ) (sets : List (List ℕ)) → 0 < length sets → x < all_places →
    first_place (get_or sets 0 []) ≡ x → length (get_or (map (past x) sets) 0 []) + 1 ≡ length (get_or sets 0 [])
shorter-common x [] some under first = absurd (omega arith)
shorter-common x ([] ∷ sets) some under first = absurd (omega arith)
shorter-common x ((p ∷ ps) ∷ sets) some under first = rw (eq-eqb p x first) (omega arith)

pub shorter-past : (x : ℕ) (sets : List (List ℕ)) → 0 < length sets → length (get_or (map (past x) sets) 0 []) ≤ length (get_or sets 0 [])
shorter-past x [] some = absurd (omega arith)
shorter-past x ([] ∷ sets) some = omega arith
shorter-past x ((p ∷ ps) ∷ sets) some =
    elim (cases_eq p x) [
      | inl here ↦ rw (eq-eqb p x here) (omega arith)
      | inr other ↦ rw (ne_eqb p x other) (omega arith)
    ]

-- Sums.

pub sum_by-none : {X : Type 0} (f : X → ℕ) (xs : List X) → ((x : X) → f x ≡ 0) → sum_by f xs ≡ 0
sum_by-none f [] none = refl
sum_by-none f (x ∷ xs) none = omega (arith, sum_by-cons f x xs, none x, sum_by-none f xs none)
