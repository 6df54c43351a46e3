-- Places that are passed at once, since they lie before the first place of another row.
use Rattle.std.proofs.Common.{◌≡◌, ℕ, zero, suc, ◌+◌, ◌-◌, ◌<◌, ◌≤◌, false, ◌||◌, List, [], ◌∷◌, All, length, length-drop, take, drop, get_or, add-one}
use Rattle.std.proofs.Common.{refl, ap, sym, ◌∙◌, arith, inl, inr}
use Rattle.std.specs.List.{list_all}
use Rattle.std.specs.List.Sorted.{IsStrictlyIncreasing}
use Rattle.std.proofs.lemmas.Bool.{cases_lt, lt-leb, ne_eqb}
use Rattle.std.proofs.lemmas.List.{drop-drop, drop-map}
use Rattle.std.proofs.lemmas.List.Elements.{All-cons, All-head, All-nil, All-tail}
use Rattle.std.proofs.Math.Bool.{and-false}
use Rattle.qm_postings.specs.Positions.{is_in, shifted}
use Rattle.qm_phrase.specs.Places.{Ascends, HasPassed, HavePassed, first_place, greatest_first_place, least_first_place}
use Rattle.qm_phrase.specs.Starts.{has_near, is_place, is_start, starts}
use Rattle.qm_phrase.proofs.CommonSteps.{IsCollected, below-later}
use Rattle.qm_phrase.proofs.StartSteps.{Ascends-first, Ascends-lower, first_place-ascends, has_near-none, starts-same}

Ascends-drop : (low n : ℕ) (s : List ℕ) → Ascends low s → Ascends low (drop n s)
Ascends-drop low zero s a = a
Ascends-drop low (suc n) [] a = tt
Ascends-drop low (suc n) (p ∷ ps) a = Ascends-lower (p + 1) low (drop n ps) (omega arith) (Ascends-drop (p + 1) n ps a.2)

first_place-drop : (n : ℕ) (s : List ℕ) → Ascends 0 s → first_place s ≤ first_place (drop n s)
first_place-drop zero s a = omega arith
first_place-drop (suc n) [] a = omega arith
first_place-drop (suc n) (p ∷ ps) a =
    let past_p = first_place-ascends (p + 1) (drop n ps) (omega arith) (Ascends-drop (p + 1) n ps a.2) in
    omega arith

is_in-drop : (x place n : ℕ) (s : List ℕ) → place ≤ x → All (λ p. p < place) (take n s) → is_in x (drop n s) ≡ is_in x s
is_in-drop x place zero s h below = refl
is_in-drop x place (suc n) [] h below = refl
is_in-drop x place (suc n) (p ∷ ps) h below =
    let Below : ℕ → Type 0 = λ q. q < place in
    let here : p < place = All-head Below p (take n ps) below in
    let rest = is_in-drop x place n ps h (All-tail Below p (take n ps) below) in
    rw (ne_eqb x p (omega arith)) rest

-- what is left of a row ascends as it did, and begins no earlier
pub Ascends-passed : (low place : ℕ) (old new : List ℕ) → HasPassed place old new → Ascends low old → Ascends low new
Ascends-passed low place old new h a = rw h.left (Ascends-drop low h.number old a)

pub first_place-passed : (place : ℕ) (old new : List ℕ) → HasPassed place old new → Ascends 0 old → first_place old ≤ first_place new
first_place-passed place old new h a = rw h.left (first_place-drop h.number old a)

is_in-passed : (x place : ℕ) (old new : List ℕ) → HasPassed place old new → place ≤ x → is_in x new ≡ is_in x old
is_in-passed x place old new h reached = ap (is_in x) h.left ∙ is_in-drop x place h.number old reached h.below

has_near-drop : (slop x place n : ℕ) (s : List ℕ) → place ≤ x → All (λ p. p < place) (take n s) → has_near slop x (drop n s) ≡ has_near slop x s
has_near-drop slop x place zero s h below = refl
has_near-drop slop x place (suc n) [] h below = refl
has_near-drop slop x place (suc n) (p ∷ ps) h below =
    let Below : ℕ → Type 0 = λ q. q < place in
    let here : p < place = All-head Below p (take n ps) below in
    let rest = has_near-drop slop x place n ps h (All-tail Below p (take n ps) below) in
    rw (lt-leb x p (omega arith)) rest

has_near-passed : (slop x place : ℕ) (old new : List ℕ) → HasPassed place old new → place ≤ x → has_near slop x new ≡ has_near slop x old
has_near-passed slop x place old new h reached = ap (has_near slop x) h.left ∙ has_near-drop slop x place h.number old reached h.below

-- All sets.

pub All-passed : (low place : ℕ) (old new : List (List ℕ)) → HavePassed place old new → All (Ascends low) old → All (Ascends low) new
All-passed low place [] [] h all = all
All-passed low place [] (t ∷ new) h all = absurd h
All-passed low place (s ∷ old) [] h all = absurd h
All-passed low place (s ∷ old) (t ∷ new) h all =
    All-cons (Ascends low) t new (Ascends-passed low place s t h.0 (All-head (Ascends low) s old all))
    (All-passed low place old new h.1 (All-tail (Ascends low) s old all))

pub least_first_place-passed : (place : ℕ) (old new : List (List ℕ)) → HavePassed place old new → All (Ascends 0) old → least_first_place old ≤ least_first_place new
least_first_place-passed place [] [] h all = omega arith
least_first_place-passed place [] (t ∷ new) h all = absurd h
least_first_place-passed place (s ∷ old) [] h all = absurd h
least_first_place-passed place (s ∷ old) (t ∷ new) h all =
    omega (
      arith,
      first_place-passed place s t h.0 (All-head (Ascends 0) s old all),
      least_first_place-passed place old new h.1 (All-tail (Ascends 0) s old all),
    )

greatest_first_place-passed : (place : ℕ) (old new : List (List ℕ)) → HavePassed place old new → All (Ascends 0) old → greatest_first_place old ≤ greatest_first_place new
greatest_first_place-passed place [] [] h all = omega arith
greatest_first_place-passed place [] (t ∷ new) h all = absurd h
greatest_first_place-passed place (s ∷ old) [] h all = absurd h
greatest_first_place-passed place (s ∷ old) (t ∷ new) h all =
    omega (
      arith,
      first_place-passed place s t h.0 (All-head (Ascends 0) s old all),
      greatest_first_place-passed place old new h.1 (All-tail (Ascends 0) s old all),
    )

pub shorter-passed : (place : ℕ) (old new : List (List ℕ)) → HavePassed place old new → length (get_or new 0 []) ≤ length (get_or old 0 [])
shorter-passed place [] [] h = omega arith
shorter-passed place [] (t ∷ new) h = absurd h
shorter-passed place (s ∷ old) [] h = absurd h
shorter-passed place (s ∷ old) (t ∷ new) h = omega (arith, ap length h.0.left, length-drop h.0.number s)

is_place-passed : (x place : ℕ) (old new : List (List ℕ)) → HavePassed place old new → place ≤ x → is_place new x ≡ is_place old x
is_place-passed x place [] [] h reached = refl
is_place-passed x place [] (t ∷ new) h reached = absurd h
is_place-passed x place (s ∷ old) [] h reached = absurd h
is_place-passed x place (s ∷ old) (t ∷ new) h reached = rw (is_in-passed x place s t h.0 reached, is_place-passed x place old new h.1 reached) refl

near-passed : (slop x place : ℕ) (old new : List (List ℕ)) → HavePassed place old new → place ≤ x →
    list_all (λ s. has_near slop x s) new ≡ list_all (λ s. has_near slop x s) old
near-passed slop x place [] [] h reached = refl
near-passed slop x place [] (t ∷ new) h reached = absurd h
near-passed slop x place (s ∷ old) [] h reached = absurd h
near-passed slop x place (s ∷ old) (t ∷ new) h reached = rw (has_near-passed slop x place s t h.0 reached, near-passed slop x place old new h.1 reached) refl

-- what lies further than the slop before the greatest of the first places is no start
near-far : (slop y : ℕ) (sets : List (List ℕ)) → y + slop < greatest_first_place sets → All (Ascends 0) sets → list_all (λ s. has_near slop y s) sets ≡ false
near-far slop y [] h all = absurd (omega arith)
near-far slop y (s ∷ sets) h all =
    elim (cases_lt (y + slop) (first_place s)) [
      | inl far ↦ rw (has_near-none slop y (first_place s) s far (Ascends-first (first_place s) s (omega arith) (All-head (Ascends 0) s sets all))) refl
      | inr near ↦ rw (near-far slop y sets (omega (arith, h, near)) (All-tail (Ascends 0) s sets all)) (and-false (has_near slop y s))
    ]

-- so the same numbers are starts once it is passed
is_start-passed : (slop place : ℕ) (old new : List (List ℕ)) → place ≤ greatest_first_place old - slop → All (Ascends 0) old → HavePassed place old new →
    (y : ℕ) → is_start slop new y ≡ is_start slop old y
is_start-passed slop place old new far all h y =
    elim (cases_lt y place) [
      | inl below ↦ rw (
        near-far slop y old (omega (arith, far, below)) all,
        near-far slop y new (omega (arith, far, below, greatest_first_place-passed place old new h all)) (All-passed 0 place old new h all),
      )
          (and-false (is_place new y) ∙ sym (and-false (is_place old y)))
      | inr reached ↦ rw (is_place-passed y place old new h reached, near-passed slop y place old new h reached) refl
    ]

pub starts-passed : (slop place : ℕ) (old new : List (List ℕ)) → place ≤ greatest_first_place old - slop → All (Ascends 0) old → HavePassed place old new →
    starts slop new ≡ starts slop old
starts-passed slop place old new far all h = starts-same slop new old (is_start-passed slop place old new far all h)

-- nor is what is collected lost
pub collected-passed : (place : ℕ) (all old new : List (List ℕ)) (found : List ℕ) → place ≤ greatest_first_place old → HavePassed place old new →
    IsCollected all old found → IsCollected all new found
collected-passed place all old new found far h was = record {
  rows = All-passed 0 place old new h was.rows;
  ascends = was.ascends;
  below = below-later (least_first_place old) (least_first_place new) found (least_first_place-passed place old new h was.rows) was.below;
  members = λ y. ap (λ b. is_in y found || b) (is_start-passed 0 place old new (omega (arith, far)) was.rows h y) ∙ was.members y;
  number = omega (arith, starts-passed 0 place old new (omega (arith, far)) was.rows h, was.number);
}

-- The positions of a row, which are galloped through.

strict_at : (low shift : ℕ) (ps : List ℕ) (k : ℕ) → Ascends low (shifted shift ps) → k + 1 < length ps → get_or ps k 0 < get_or ps (k + 1) 0
strict_at low shift [] k a h = absurd (omega arith)
strict_at low shift (p ∷ []) k a h = absurd (omega arith)
strict_at low shift (p ∷ q ∷ ps) zero a h = omega (arith, a.2.0)
strict_at low shift (p ∷ q ∷ ps) (suc k) a h = rw add-one (rw add-one at (strict_at (p + shift + 1) shift (q ∷ ps) k a.2 (omega arith)))

pub strict : (low shift : ℕ) (ps : List ℕ) → Ascends low (shifted shift ps) → IsStrictlyIncreasing ps
strict low shift ps a = λ k h. strict_at low shift ps k a h

all-below : (n shift place target : ℕ) (ps : List ℕ) → target ≤ place - shift → ((k : ℕ) → 0 ≤ k → k < n → get_or ps k 0 < target) → n ≤ length ps →
    All (λ p. p < place) (take n (shifted shift ps))
all-below zero shift place target ps h passed within = All-nil (λ p. p < place)
all-below (suc n) shift place target [] h passed within = absurd (omega arith)
all-below (suc n) shift place target (p ∷ ps) h passed within =
    let first : p < target = passed 0 (omega arith) (omega arith) in
    All-cons (λ q. q < place) (p + shift) (take n (shifted shift ps)) (omega arith)
    (all-below n shift place target ps h (λ k low high. passed (suc k) (omega arith) (omega arith)) (omega arith))

pub HasPassed-galloped : (place shift passed n target : ℕ) (ps : List ℕ) → target ≤ place - shift →
    ((k : ℕ) → 0 ≤ k → k < n → get_or (drop passed ps) k 0 < target) → n ≤ length (drop passed ps) →
    HasPassed place (shifted shift (drop passed ps)) (shifted shift (drop (passed + n) ps))
HasPassed-galloped place shift passed n target ps h below within = record {
  number = n;
  left = ap (shifted shift) (sym (drop-drop n passed ps)) ∙ sym (drop-map (λ p. p + shift) n (drop passed ps));
  below = all-below n shift place target (drop passed ps) h below within;
}

pub HasPassed-none : (place : ℕ) (ps : List ℕ) → HasPassed place ps ps
HasPassed-none place ps = record { number = 0; left = refl; below = All-nil (λ p. p < place) }
