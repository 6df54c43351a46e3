-- The bits of a TinySet and its members.
use Rattle.std.proofs.Common.{◌≡◌, ℕ, zero, suc, ◌+◌, ◌*◌, ◌/◌, ◌%◌, ◌^◌, ◌<◌, ◌≤◌, min, Bool, true, false, not, ◌&&◌, ◌||◌, eqb, ltb, nat_le, nat_lt, ◌==◌, []}
use Rattle.std.proofs.Common.{◌∷◌, length, bit_and, bit_or, w64, refl, sym, ap, ◌∙◌, inl, inr, arith, eq-eqb, ne_eqb, lt-ltb, le-ltb, le-leb, add-one, pow_pos}
use Rattle.std.proofs.Common.{mod-eq_of_lt}
use Rattle.std.proofs.lemmas.Bool.{cases_eq, cases_lt, lt-leb, and_right}
use Rattle.std.proofs.lemmas.Bool.Decides.{nat_tests}
use Rattle.std.proofs.lemmas.List.{length-append}
use Rattle.std.proofs.lemmas.Nat.{shr_split, ones_cat, ones-le, zero_from_ones, mod_below, shr_below}
use Rattle.std.proofs.lemmas.Nat.Bits.{shr_and_one, bit_at_set_same, bit_at_set_other, bit_at_clear_same, bit_at_clear_other, bit_at_and, bit_at-lt}
use Rattle.std.proofs.lemmas.Nat.Bits.{bit_at-zero, bit_at-trailing_zeros, bit_at_cat_low, ones_shl, bit_at_mask_inside, bit_at_mask_below}
use Rattle.std.specs.Int.{bit_at, bit_not, trailing_zeros}
use Rattle.std.specs.Int.Count.{ones, ones-ones}
use Rattle.qm_docset.specs.declared.tiny_set.TinySet.{TinySet}
use Rattle.qm_docset.specs.Members.{members_between}
use Rattle.qm_docset.specs.TinySet.{tiny_has, tiny_members}
use Rattle.qm_docset.proofs.MembersLemmas.{and_true, members_between-none, members_between-split, members_between-skip, members_between-found}
use Rattle.qm_docset.proofs.MembersLemmas.{members_between-same, members_between-first}

pub tiny_has-zero : (x : ℕ) → tiny_has (record { bits = 0 }) x ≡ false
unfolding tiny_has
tiny_has-zero x = let none = bit_at-zero x in grind (arith, nat_tests)

pub tiny_has-past : (s : TinySet) (x : ℕ) → 64 ≤ x → tiny_has s x ≡ false
unfolding tiny_has
tiny_has-past s x past = rw (le-ltb x 64 past)

pub tiny_has-insert : (s : TinySet) (el : ℕ) → el < 64 → (x : ℕ) →
    tiny_has (record { bits = bit_or s.bits (1 * 2 ^ el % 2 ^ 64) }) x ≡ (x == el || tiny_has s x)
unfolding tiny_has
tiny_has-insert s el within x =
    elim (cases_eq x el) [
      | inl same ↦ rw (same, bit_at_set_same w64 s.bits el within, eq-eqb el el refl, lt-ltb el 64 within)
      | inr other ↦ rw (bit_at_set_other w64 s.bits el within x other, ne_eqb x el other)
    ]

pub tiny_has-remove : (s : TinySet) (el : ℕ) → el < 64 → (x : ℕ) →
    tiny_has (record { bits = bit_and s.bits (bit_not w64 (1 * 2 ^ el % 2 ^ 64)) }) x ≡ (tiny_has s x && not (x == el))
unfolding tiny_has
tiny_has-remove s el within x =
    elim (cases_lt x 64) [
      | inr past ↦ rw (le-ltb x 64 past)
      | inl below ↦ elim (cases_eq x el) [
        | inl same ↦ rw (same, bit_at_clear_same w64 s.bits el within, eq-eqb el el refl, lt-ltb el 64 within) (sym (no_member (bit_at s.bits el == 1)))
        | inr other ↦ rw (bit_at_clear_other w64 s.bits el within x below other, ne_eqb x el other) (sym (and_true (ltb x 64 && (bit_at s.bits x == 1))))
      ]
    ]
  where
    no_member : (b : Bool) → (b && false) ≡ false
    no_member true = refl
    no_member false = refl

pub tiny_has-shift : (s : TinySet) (el : ℕ) → el < 64 → eqb (bit_and (s.bits / 2 ^ el) 1) 1 ≡ tiny_has s el
unfolding tiny_has
tiny_has-shift s el within = rw (shr_and_one s.bits el, lt-ltb el 64 within)

both_set : (t : Bool) (a b : ℕ) → a < 2 → b < 2 → (t && (min a b == 1)) ≡ ((t && (a == 1)) && (t && (b == 1)))
both_set true a b small also = grind (arith, nat_tests)
both_set false a b small also = refl

pub tiny_has-intersect : (s t : TinySet) (x : ℕ) → tiny_has (record { bits = bit_and s.bits t.bits }) x ≡ (tiny_has s x && tiny_has t x)
unfolding tiny_has
tiny_has-intersect s t x = rw (bit_at_and s.bits t.bits x) (both_set (ltb x 64) (bit_at s.bits x) (bit_at t.bits x) (bit_at-lt s.bits x) (bit_at-lt t.bits x))

pub tiny_has-range : (from : ℕ) (x : ℕ) →
    tiny_has (record { bits = 18446744073709551615 * 2 ^ (from % 64) % 18446744073709551616 }) x ≡ (nat_le (from % 64) x && nat_lt x 64)
unfolding tiny_has
tiny_has-range from x =
    let low : from % 64 ≤ 64 = omega arith in
    rw (ones_shl 64 (from % 64) low)
    (elim (cases_lt x 64) [
      | inl below ↦ elim (cases_lt x (from % 64)) [
        | inl before ↦ rw (bit_at_mask_below (from % 64) 64 x before, lt-ltb x 64 below, lt-leb (from % 64) x before)
        | inr after ↦ rw (bit_at_mask_inside (from % 64) 64 x after below, lt-ltb x 64 below, le-leb (from % 64) x after)
      ]
      | inr past ↦ grind (arith, nat_tests)
    ])

-- ---- the number of members

has_bit : ℕ → ℕ → Bool
has_bit n x = bit_at n x == 1

ones_of_bit : (a : ℕ) → a < 2 → ones a ≡ a
ones_of_bit zero small = let none = ones-le 0 0 (omega arith) in omega arith
ones_of_bit (suc zero) small = ones-ones 1
ones_of_bit (suc (suc a)) small = absurd (omega arith)

low_bits : (k n x : ℕ) → 0 ≤ x → x < k → has_bit n x ≡ has_bit (n % 2 ^ k) x
unfolding has_bit
low_bits k n x above below =
    let e = bit_at_cat_low (n / 2 ^ k) k (n % 2 ^ k) x below in
    let cut = shr_split n k in
    ap (λ b. b == 1) (rw cut at e)

-- the highest bit counts by itself
last_bit : (k n : ℕ) → n < 2 ^ (k + 1) → (bit_at n k ≡ n / 2 ^ k) × (n / 2 ^ k < 2)
last_bit k n small =
    let top : n / 2 ^ k < 2 ^ 1 = shr_below n 1 k (let e : 1 + k ≡ k + 1 = omega arith in rw e small) in
    (mod-eq_of_lt top, top)

members-last : (n k a : ℕ) → bit_at n k ≡ a → a < 2 → length (members_between (has_bit n) k (k + 1)) ≡ a
unfolding has_bit
members-last n k zero e small =
    let here : has_bit n k ≡ false = unfold has_bit in rw e in
    rw (members_between-none (has_bit n) k (k + 1) (λ x above below. let at : x ≡ k = omega arith in rw (at, here)))
members-last n k (suc zero) e small =
    let here : has_bit n k ≡ true = unfold has_bit in rw e in
    rw (
      members_between-first (has_bit n) k (k + 1) (omega arith) here,
      members_between-none (has_bit n) (k + 1) (k + 1) (λ x above below. absurd (omega arith)),
    )
members-last n k (suc (suc a)) e small = absurd (omega arith)

ones-members : (k n : ℕ) → n < 2 ^ k → ones n ≡ length (members_between (has_bit n) 0 k)
ones-members zero n small =
    let none = ones-le 0 n small in
    rw (members_between-none (has_bit n) 0 0 (λ x above below. absurd (omega arith))) (omega arith)
ones-members (suc k) n small =
    let small' : n < 2 ^ (k + 1) = rw add-one small in
    let low : n % 2 ^ k < 2 ^ k = mod_below n (2 ^ k) (pow_pos k) in
    let top = last_bit k n small' in
    let cut = shr_split n k in
    let parts = ones_cat k (n / 2 ^ k) (n % 2 ^ k) low in
    let high = ones_of_bit (n / 2 ^ k) top.1 in
    let rest = ones-members k (n % 2 ^ k) low in
    let last = members-last n k (n / 2 ^ k) top.0 top.1 in
    let same = members_between-same (has_bit n) (has_bit (n % 2 ^ k)) 0 k (low_bits k n) in
    let all : length (members_between (has_bit n) 0 (k + 1)) ≡ length (members_between (has_bit n) 0 k) + length (members_between (has_bit n) k (k + 1)) =
    ap length (members_between-split (has_bit n) 0 k (k + 1) (omega arith) (omega arith))
    ∙ length-append (members_between (has_bit n) 0 k) (members_between (has_bit n) k (k + 1)) in
    let whole : ones n ≡ ones (n / 2 ^ k) + ones (n % 2 ^ k) = ap ones (sym cut) ∙ parts in
    rw (← add-one) (omega (arith, ap length same))

pub length-tiny_members : (s : TinySet) → s.bits < 2 ^ 64 → ones s.bits ≡ length (tiny_members s)
unfolding tiny_members tiny_has has_bit
length-tiny_members s fits =
    ones-members 64 s.bits fits
    ∙ ap length (members_between-same (has_bit s.bits) (tiny_has s) 0 64 (λ x above below. unfold tiny_has has_bit in rw (lt-ltb x 64 below)))

pub tiny_members-empty : (s : TinySet) → s.bits ≡ 0 → tiny_members s ≡ []
unfolding tiny_members
tiny_members-empty s none =
    members_between-none (tiny_has s) 0 64 (λ x above below. unfold tiny_has in rw none (let zero_bit = bit_at-zero x in grind (arith, nat_tests)))

pub bits-empty : (s : TinySet) → s.bits < 2 ^ 64 → tiny_members s ≡ [] → s.bits ≡ 0
bits-empty s fits none = zero_from_ones s.bits (length-tiny_members s fits ∙ ap length none)

-- ---- the lowest member

module _ (s : TinySet) (fits : s.bits < 2 ^ 64) (some : 0 < s.bits) where
  lowest_bit : (trailing_zeros w64 s.bits < 64) × (bit_at s.bits (trailing_zeros w64 s.bits) ≡ 1) ×
      ((i : ℕ) → i < trailing_zeros w64 s.bits → bit_at s.bits i ≡ 0)
  lowest_bit = bit_at-trailing_zeros w64 s.bits some fits

  pub tiny_members-lowest : tiny_members s ≡ trailing_zeros w64 s.bits ∷ members_between (tiny_has s) (trailing_zeros w64 s.bits + 1) 64
  unfolding tiny_members
  tiny_members-lowest =
      let l = lowest_bit in
      members_between-found (tiny_has s) 0 (trailing_zeros w64 s.bits) 64 (omega arith) l.0
      (unfold tiny_has in rw (l.1, lt-ltb (trailing_zeros w64 s.bits) 64 l.0))
      (λ x above below. unfold tiny_has in let zero_bit = l.2 x below in rw zero_bit (grind (arith, nat_tests)))

  -- the lowest member goes, and no other
  pub tiny_has-pop : (x : ℕ) → tiny_has (record { bits = bit_and s.bits (bit_not w64 (1 * 2 ^ trailing_zeros w64 s.bits % 2 ^ 64)) }) x
      ≡ (tiny_has s x && not (x == trailing_zeros w64 s.bits))
  tiny_has-pop = tiny_has-remove s (trailing_zeros w64 s.bits) lowest_bit.0

  pub tiny_members-pop : tiny_members (record { bits = bit_and s.bits (bit_not w64 (1 * 2 ^ trailing_zeros w64 s.bits % 2 ^ 64)) })
      ≡ members_between (tiny_has s) (trailing_zeros w64 s.bits + 1) 64
  unfolding tiny_members
  tiny_members-pop =
      let l = lowest_bit in
      let lowest : ℕ = trailing_zeros w64 s.bits in
      let left : TinySet = record { bits = bit_and s.bits (bit_not w64 (1 * 2 ^ lowest % 2 ^ 64)) } in
      let gone : tiny_has left lowest ≡ false = tiny_has-pop lowest ∙ rw (eq-eqb lowest lowest refl) (and_right (tiny_has s lowest) false refl) in
      let kept : (x : ℕ) → (x ≡ lowest → ⊥) → tiny_has left x ≡ tiny_has s x = λ x other. tiny_has-pop x
      ∙ rw (ne_eqb x lowest other) (and_true (tiny_has s x)) in
      members_between-skip (tiny_has left) 0 (lowest + 1) 64 (omega arith)
      (λ x above below. elim (cases_eq x lowest) [
        | inl same ↦ rw (same, gone)
        | inr other ↦ kept x other ∙ (unfold tiny_has in let zero_bit = l.2 x (omega arith) in rw zero_bit (grind (arith, nat_tests)))
      ])
      ∙ members_between-same (tiny_has left) (tiny_has s) (lowest + 1) 64 (λ x above below. kept x (omega arith))
