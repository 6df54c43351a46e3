-- The members of a set of numbers between two bounds.
use Rattle.std.proofs.Common.{◌≡◌, ℕ, zero, suc, ◌+◌, ◌-◌, ◌<◌, ◌≤◌, ◌==◌, ◌||◌, Bool, true, false, ◌&&◌, List, [], ◌∷◌, ◌++◌, length, map, filter, refl, sym}
use Rattle.std.proofs.Common.{ap, ◌∙◌, ◌⊎◌, inl, inr, arith, append-nil, length-append}
use Rattle.std.proofs.lemmas.Bool.{cases_lt, cases_Bool, cases_eq, eq-eqb, ne_eqb}
use Rattle.std.proofs.lemmas.List.Elements.{filter-append}
use Rattle.std.specs.List.{range_with_len}
use Rattle.qm_docset.specs.ListFacts.{filter-range_none, filter-range_same}
use Rattle.qm_docset.specs.Members.{members_between}

pub and_true : (b : Bool) → (b && true) ≡ b
and_true true = refl
and_true false = refl

-- ---- by count

range-add : (low m n : ℕ) → range_with_len low (m + n) ≡ range_with_len low m ++ range_with_len (low + m) n
range-add low zero n =
    let a : zero + n ≡ n = omega arith in
    let b : low + zero ≡ low = omega arith in
    rw (a, b)
range-add low (suc m) n =
    let a : suc m + n ≡ suc (m + n) = omega arith in
    let b : low + suc m ≡ low + 1 + m = omega arith in
    rw (a, b) (ap (λ xs. low ∷ xs) (range-add (low + 1) m n))

filter-shift : (has : ℕ → Bool) (k low n : ℕ) → filter has (range_with_len (k + low) n) ≡ map (λ x. k + x) (filter (λ x. has (k + x)) (range_with_len low n))
filter-shift has k low zero = refl
filter-shift has k low (suc n) =
    let next : k + low + 1 ≡ k + (low + 1) = omega arith in
    let rest = filter-shift has k (low + 1) n in
    elim (cases_Bool (has (k + low))) [
      | inl has_it ↦ rw (has_it, next, rest)
      | inr lacks ↦ rw (lacks, next, rest)
    ]

filter-both : (p q : ℕ → Bool) (xs : List ℕ) → filter q (filter p xs) ≡ filter (λ x. p x && q x) xs
filter-both p q [] = refl
filter-both p q (x ∷ xs) =
    let rest = filter-both p q xs in
    elim (cases_Bool (p x)) [
      | inl has_it ↦ elim (cases_Bool (q x)) [ inl also ↦ rw (has_it, also, rest) | inr not_also ↦ rw (has_it, not_also, rest) ]
      | inr lacks ↦ rw (lacks, rest)
    ]

filter-short : (has : ℕ → Bool) (low n : ℕ) → length (filter has (range_with_len low n)) ≤ n
filter-short has low zero = omega arith
filter-short has low (suc n) =
    let rest = filter-short has (low + 1) n in
    elim (cases_Bool (has low)) [ inl has_it ↦ rw has_it (omega arith) | inr lacks ↦ rw lacks (omega arith) ]

-- ---- between two bounds

module _ (has : ℕ → Bool) where
  pub members_between-none : (low high : ℕ) → ((x : ℕ) → low ≤ x → x < high → has x ≡ false) → members_between has low high ≡ []
  unfolding members_between
  members_between-none low high none = filter-range_none has low (high - low) (λ x above below. none x above (omega arith))

  pub members_between-split : (low mid high : ℕ) → low ≤ mid → mid ≤ high →
      members_between has low high ≡ members_between has low mid ++ members_between has mid high
  unfolding members_between
  members_between-split low mid high a b =
      let count : high - low ≡ (mid - low) + (high - mid) = omega arith in
      let place : low + (mid - low) ≡ mid = omega arith in
      rw (count, range-add low (mid - low) (high - mid), place)
      (filter-append has (range_with_len low (mid - low)) (range_with_len mid (high - mid)))

  -- no member stands before `mid`
  pub members_between-skip : (low mid high : ℕ) → low ≤ mid → ((x : ℕ) → low ≤ x → x < mid → has x ≡ false) →
      members_between has low high ≡ members_between has mid high
  members_between-skip low mid high a none =
      elim (cases_lt high mid) [
        | inl past ↦ members_between-none low high (λ x above below. none x above (omega arith))
            ∙ sym (members_between-none mid high (λ x above below. absurd (omega arith)))
        | inr within ↦
            let front = members_between-none low mid none in
            members_between-split low mid high a within ∙ rw front refl
      ]

  pub members_between-first : (low high : ℕ) → low < high → has low ≡ true → members_between has low high ≡ low ∷ members_between has (low + 1) high
  unfolding members_between
  members_between-first low high below here =
      let count : high - low ≡ suc (high - (low + 1)) = omega arith in
      rw (count, here)

  -- the first member from `low` on is x
  pub members_between-found : (low x high : ℕ) → low ≤ x → x < high → has x ≡ true →
      ((y : ℕ) → low ≤ y → y < x → has y ≡ false) → members_between has low high ≡ x ∷ members_between has (x + 1) high
  members_between-found low x high above below here none =
      members_between-skip low x high above none ∙ members_between-first x high below here

  pub length-members_between : (low high : ℕ) → length (members_between has low high) ≤ high - low
  unfolding members_between
  length-members_between low high = filter-short has low (high - low)

-- no member lies past the bound
pub members_between-bound : (has : ℕ → Bool) (low bound high : ℕ) → bound ≤ high →
    ((x : ℕ) → bound ≤ x → has x ≡ false) → members_between has low high ≡ members_between has low bound
members_between-bound has low bound high past none =
    elim (cases_lt bound low) [
      | inl beyond ↦
          members_between-none has low high (λ x after below. none x (omega arith))
          ∙ sym (members_between-none has low bound (λ x after below. absurd (omega arith)))
      | inr within ↦
          let behind = members_between-none has bound high (λ x after below. none x after) in
          members_between-split has low bound high within past ∙ rw behind (append-nil (members_between has low bound))
    ]

pub members_between-same : (p q : ℕ → Bool) (low high : ℕ) →
    ((x : ℕ) → low ≤ x → x < high → p x ≡ q x) → members_between p low high ≡ members_between q low high
unfolding members_between
members_between-same p q low high same = filter-range_same p q low (high - low) (λ x above below. same x above (omega arith))

pub members_between-shift : (has : ℕ → Bool) (k low high : ℕ) →
    members_between has (k + low) (k + high) ≡ map (λ x. k + x) (members_between (λ x. has (k + x)) low high)
unfolding members_between
members_between-shift has k low high =
    let count : k + high - (k + low) ≡ high - low = omega arith in
    rw count (filter-shift has k low (high - low))

pub filter-members_between : (p q : ℕ → Bool) (low high : ℕ) → filter q (members_between p low high) ≡ members_between (λ x. p x && q x) low high
unfolding members_between
filter-members_between p q low high = filter-both p q (range_with_len low (high - low))

-- ---- the first member

-- x is the first member from `low` on
pub record IsFirst (has : ℕ → Bool) (low high x : ℕ) : Type 0 where
  pub above : low ≤ x
  pub below : x < high
  pub member : has x ≡ true
  pub none_before : (y : ℕ) → low ≤ y → y < x → has y ≡ false

abbrev pub HasNone : (ℕ → Bool) → ℕ → ℕ → Type 0
HasNone has low high = (x : ℕ) → low ≤ x → x < high → has x ≡ false

first_or_none : (has : ℕ → Bool) (low n : ℕ) → HasNone has low (low + n) ⊎ ((x : ℕ) × IsFirst has low (low + n) x)
first_or_none has low zero = inl (λ x above below. absurd (omega arith))
first_or_none has low (suc n) =
    elim (cases_Bool (has low)) [
      | inl has_it ↦ inr (low, record { above = omega arith; below = omega arith; member = has_it; none_before = λ y above before. absurd (omega arith) })
      | inr lacks ↦ elim (first_or_none has (low + 1) n) [
        | inl none ↦ inl (λ x above below. elim (cases_eq x low) [
          | inl here ↦ rw (here, lacks)
          | inr other ↦ none x (omega arith) (omega arith)
        ])
        | inr first ↦ inr (
          first.0,
          record {
            above = omega (arith, first.1.above);
            below = omega (arith, first.1.below);
            member = first.1.member;
            none_before = λ y above before. elim (cases_eq y low) [
              | inl here ↦ rw (here, lacks)
              | inr other ↦ first.1.none_before y (omega arith) before
            ];
          },
        )
      ]
    ]

pub cases_first : (has : ℕ → Bool) (low high : ℕ) → HasNone has low high ⊎ ((x : ℕ) × IsFirst has low high x)
cases_first has low high =
    elim (cases_lt high low) [
      | inl past ↦ inl (λ x above below. absurd (omega arith))
      | inr within ↦
          let place : low + (high - low) ≡ high = omega arith in
          rw place at (first_or_none has low (high - low))
    ]

pub members_between-first_of : (has : ℕ → Bool) (low high x : ℕ) → IsFirst has low high x → members_between has low high ≡ x ∷ members_between has (x + 1) high
members_between-first_of has low high x first = members_between-found has low x high first.above first.below first.member first.none_before

pub HasNone-from_members : (has : ℕ → Bool) (low high : ℕ) → members_between has low high ≡ [] → HasNone has low high
HasNone-from_members has low high empty =
    elim (cases_first has low high) [
      | inl none ↦ none
      | inr first ↦ absurd (let some = members_between-first_of has low high first.0 first.1 in cc)
    ]

-- one more member is counted
pub length-members_between_insert : (has more : ℕ → Bool) (el low high : ℕ) → low ≤ el → el < high → has el ≡ false → ((x : ℕ) → more x ≡ (x == el || has x))
    → length (members_between more low high) ≡ length (members_between has low high) + 1
length-members_between_insert has more el low high above below lacks is =
    let here : more el ≡ true = is el ∙ rw (eq-eqb el el refl) in
    let before : members_between more low el ≡ members_between has low el =
    members_between-same more has low el (λ x _ under. is x ∙ rw (ne_eqb x el (λ same. omega arith))) in
    let behind : members_between more (el + 1) high ≡ members_between has (el + 1) high =
    members_between-same more has (el + 1) high (λ x over _. is x ∙ rw (ne_eqb x el (λ same. omega arith))) in
    let with : members_between more el high ≡ el ∷ members_between has (el + 1) high = members_between-first more el high below here
    ∙ ap (λ r. el ∷ r) behind in
    let without : members_between has el high ≡ members_between has (el + 1) high =
    members_between-skip has el (el + 1) high (omega arith) (λ x over under. let same : x ≡ el = omega arith in rw same lacks) in
    let both = ap length (members_between-split more low el high above (omega arith))
    ∙ length-append (members_between more low el) (members_between more el high) in
    let once = ap length (members_between-split has low el high above (omega arith))
    ∙ length-append (members_between has low el) (members_between has el high) in
    omega (arith, ap length before, ap length with, ap length without)
