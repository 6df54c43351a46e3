-- Where two terms have no start, a phrase that begins with them has none.
use Rattle.std.proofs.Common.{◌≡◌, ℕ, zero, suc, ◌+◌, ◌<◌, ◌≤◌, ◌==◌, nat_le, Bool, true, false, ◌&&◌, ◌||◌, List, [], ◌∷◌, All, Any, length, take, get_or, refl, ap, ◌∙◌, arith, inl, inr}
use Rattle.std.specs.List.{count_by, list_all, range_with_len}
use Rattle.std.proofs.lemmas.Bool.{and_from, and_parts, cases_eq, cases_lt, eq-eqb, false_from_ne_true, le-leb, leb-true, or_left, or_right}
use Rattle.std.proofs.lemmas.List.Elements.{All-head, All-tail}
use Rattle.std.proofs.lemmas.List.Folds.{Any-from_list_any, list_any_at}
use Rattle.std.proofs.lemmas.List.Sums.{sum_by-cons}
use Rattle.qm_postings.specs.Positions.{is_in}
use Rattle.qm_phrase.specs.Places.{Ascends}
use Rattle.qm_phrase.specs.Starts.{all_places, has_near, is_place, is_start, starts, starts_below}
use Rattle.qm_phrase.proofs.StartSteps.{one_if, starts-none}

-- a number of the range that passes the test is counted
count_by-some : (p : ℕ → Bool) (x a n : ℕ) → a ≤ x → x < a + n → p x ≡ true → 0 < count_by p (range_with_len a n)
count_by-some p x a zero low high here = absurd (omega arith)
count_by-some p x a (suc n) low high here =
    let first = sum_by-cons (λ y. one_if (p y)) a (range_with_len (a + 1) n) in
    elim (cases_eq a x) [
      | inl same ↦ omega (arith, first, ap one_if (ap p same ∙ here))
      | inr other ↦ omega (arith, first, count_by-some p x (a + 1) n (omega arith) (omega arith) here)
    ]

starts_below-some : (slop x n : ℕ) (sets : List (List ℕ)) → x < n → is_start slop sets x ≡ true → 0 < starts_below slop sets n
unfolding starts_below
starts_below-some slop x n sets below here = count_by-some (is_start slop sets) x 0 n (omega arith) (omega arith) here

starts-some : (slop x : ℕ) (sets : List (List ℕ)) → x < all_places → is_start slop sets x ≡ true → 0 < starts slop sets
unfolding starts
starts-some slop x sets below here = starts_below-some slop x all_places sets below here

-- a place of a set that lies near
near_place : (slop y : ℕ) (s : List ℕ) → has_near slop y s ≡ true → Any (λ q. (y ≤ q) × (q ≤ y + slop)) s
near_place slop y s here =
    let one = Any-from_list_any (λ q. nat_le y q && nat_le q (y + slop)) s here in
    let sides = and_parts (nat_le y one.1) (nat_le one.1 (y + slop)) one.4 in
    (one.0, one.1, one.2, one.3, (leb-true y one.1 sides.0, leb-true one.1 (y + slop) sides.1))

near_from : (slop x k q : ℕ) (s : List ℕ) → k < length s → get_or s k q ≡ q → x ≤ q → q ≤ x + slop → has_near slop x s ≡ true
near_from slop x k q s below is low high =
    list_any_at (λ q. nat_le x q && nat_le q (x + slop)) s k q below
    (ap (λ r. nat_le x r && nat_le r (x + slop)) is ∙ and_from (nat_le x q) (nat_le q (x + slop)) (le-leb x q low) (le-leb q (x + slop) high))

place_in : (k q : ℕ) (s : List ℕ) → k < length s → get_or s k q ≡ q → is_in q s ≡ true
place_in k q s below is = list_any_at (λ y. q == y) s k q below (ap (λ r. q == r) is ∙ eq-eqb q q refl)

below_all : (low k q : ℕ) (s : List ℕ) → Ascends low s → k < length s → get_or s k q ≡ q → q < all_places
below_all low k q [] a below is = absurd (omega arith)
below_all low zero q (p ∷ ps) a below is = omega (arith, is, a.1)
below_all low (suc k) q (p ∷ ps) a below is = below_all (p + 1) k q ps a.2 (omega arith) is

start_from : (slop x : ℕ) (a b : List ℕ) → is_place (a ∷ b ∷ []) x ≡ true → has_near slop x a ≡ true → has_near slop x b ≡ true →
    is_start slop (a ∷ b ∷ []) x ≡ true
start_from slop x a b place one two =
    and_from (is_place (a ∷ b ∷ []) x) (has_near slop x a && (has_near slop x b && true)) place
    (and_from (has_near slop x a) (has_near slop x b && true) one (and_from (has_near slop x b) true two refl))

-- where both have a place near a number, the lesser of these is a start of the two
start_of : (slop y : ℕ) (a b : List ℕ) → Ascends 0 a → Ascends 0 b → has_near slop y a ≡ true → has_near slop y b ≡ true →
    0 < starts slop (a ∷ b ∷ [])
start_of slop y a b up too here there =
    let p = near_place slop y a here in
    let q = near_place slop y b there in
    elim (cases_lt q.1 p.1) [
      | inl other ↦
          let place = or_right (is_in q.1 a) (is_in q.1 b || false) (or_left (is_in q.1 b) false (place_in q.0 q.1 b q.2 q.3)) in
          let one = near_from slop q.1 p.0 p.1 a p.2 p.3 (omega arith) (omega (arith, p.4, q.4)) in
          let two = near_from slop q.1 q.0 q.1 b q.2 q.3 (omega arith) (omega arith) in
          starts-some slop q.1 (a ∷ b ∷ []) (below_all 0 q.0 q.1 b too q.2 q.3) (start_from slop q.1 a b place one two)
      | inr first ↦
          let place = or_left (is_in p.1 a) (is_in p.1 b || false) (place_in p.0 p.1 a p.2 p.3) in
          let one = near_from slop p.1 p.0 p.1 a p.2 p.3 (omega arith) (omega arith) in
          let two = near_from slop p.1 q.0 q.1 b q.2 q.3 (omega arith) (omega (arith, p.4, q.4)) in
          starts-some slop p.1 (a ∷ b ∷ []) (below_all 0 p.0 p.1 a up p.2 p.3) (start_from slop p.1 a b place one two)
    ]

starts-pair : (slop : ℕ) (a b : List ℕ) (sets : List (List ℕ)) → Ascends 0 a → Ascends 0 b → starts slop (a ∷ b ∷ []) ≡ 0 →
    starts slop (a ∷ b ∷ sets) ≡ 0
starts-pair slop a b sets up too none =
    starts-none slop (a ∷ b ∷ sets) (λ y. false_from_ne_true (is_start slop (a ∷ b ∷ sets) y) (λ here.
    let near = (and_parts (is_place (a ∷ b ∷ sets) y) (list_all (λ s. has_near slop y s) (a ∷ b ∷ sets)) here).1 in
    let more = and_parts (has_near slop y a) (list_all (λ s. has_near slop y s) (b ∷ sets)) near in
    let still = and_parts (has_near slop y b) (list_all (λ s. has_near slop y s) sets) more.1 in
    let some : 0 < starts slop (a ∷ b ∷ []) = start_of slop y a b up too more.0 still.0 in
    omega (arith, some, none)))

-- where the first two terms have none, all have none
pub starts-front : (slop : ℕ) (sets : List (List ℕ)) → All (Ascends 0) sets → starts slop (take 2 sets) ≡ 0 → starts slop sets ≡ 0
starts-front slop [] all none = none
starts-front slop (a ∷ []) all none = none
starts-front slop (a ∷ b ∷ sets) all none =
    let rest = All-tail (Ascends 0) a (b ∷ sets) all in
    starts-pair slop a b sets (All-head (Ascends 0) a (b ∷ sets) all) (All-head (Ascends 0) b sets rest) none
