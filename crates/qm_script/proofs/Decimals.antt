-- The digits of a number, written two at a time from the last.
use Rattle.std.proofs.Common.{◌≡◌, ℕ, zero, suc, Bool, true, ◌==◌, ◌&&◌, ◌+◌, ◌*◌, ◌-◌, ◌/◌, ◌%◌, ◌^◌, ◌<◌, ◌≤◌, ◌∷◌, ◌++◌, [], List, ap, append_assoc, arith}
use Rattle.std.proofs.Common.{get_or, inl, inr, subst, drop, length, length-append, refl, set, sym, ◌∙◌}
use Rattle.std.proofs.lemmas.Fmt.{decimal_digit, decimal_step, length-decimal-le_wide}
use Rattle.std.proofs.lemmas.Bool.{and_parts, cases_eq, eqb-true}
use Rattle.std.proofs.lemmas.List.{drop-set}
use Rattle.std.specs.Fmt.{decimal}
use Rattle.qm_script.specs.declared.decimal.TheConstants.{PAIRS}

abbrev pub pair : ℕ → List ℕ
pair n = (48 + n / 10) ∷ (48 + n % 10) ∷ []

pub decimal-pair : (n : ℕ) → 10 ≤ n → n < 100 → decimal n ≡ pair n
decimal-pair n low high = rw (decimal_step n low (omega arith), decimal_digit (n / 10) (omega arith))

-- the table has the two digits of each number below 100
abbrev has_pair : ℕ → Bool
has_pair n = (get_or PAIRS (2 * n) 0 == 48 + n / 10) && (get_or PAIRS (2 * n + 1) 0 == 48 + n % 10)

abbrev has_pairs_below : ℕ → Bool
has_pairs_below zero = true
has_pairs_below (suc n) = has_pair n && has_pairs_below n

pairs-below : (most n : ℕ) → has_pairs_below most ≡ true → n < most → has_pair n ≡ true
pairs-below zero n all below = absurd (omega (arith, below))
pairs-below (suc most) n all below =
    let both = and_parts (has_pair most) (has_pairs_below most) all in
    elim (cases_eq n most) [ inl last ↦ subst (λ k. has_pair k ≡ true) (sym last) both.0 | inr other ↦ pairs-below most n both.1 (omega (arith, other, below)) ]

pub table-pair : (n : ℕ) → n < 100 → (get_or PAIRS (2 * n) 0 ≡ 48 + n / 10) × (get_or PAIRS (2 * n + 1) 0 ≡ 48 + n % 10)
table-pair n below =
    let both = and_parts (get_or PAIRS (2 * n) 0 == 48 + n / 10) (get_or PAIRS (2 * n + 1) 0 == 48 + n % 10) (pairs-below 100 n refl below) in
    (eqb-true (get_or PAIRS (2 * n) 0) (48 + n / 10) both.0, eqb-true (get_or PAIRS (2 * n + 1) 0) (48 + n % 10) both.1)

-- a number has the digits of its hundreds, and two more
pub decimal-hundreds : (n : ℕ) → 100 ≤ n → n < 2 ^ 64 → decimal n ≡ decimal (n / 100) ++ pair (n % 100)
decimal-hundreds n low high =
    let hundreds : n / 10 / 10 ≡ n / 100 = omega arith in
    let tens : n / 10 % 10 ≡ n % 100 / 10 = omega arith in
    let ones : n % 10 ≡ n % 100 % 10 = omega arith in
    rw (decimal_step n (omega arith) high, decimal_step (n / 10) (omega arith) (omega arith), append_assoc, hundreds, tens, ← ones)

-- so it has two digits at least
pub two-of-hundreds : (n : ℕ) → 100 ≤ n → n < 2 ^ 64 → 2 ≤ length (decimal n)
two-of-hundreds n low high =
    omega (arith, ap length (decimal-hundreds n low high), length-append (decimal (n / 100)) (pair (n % 100)))

-- From this place on stands what is behind the digits of what is left, and behind all digits what stood there.
pub record IsWrittenFrom (number left end from : ℕ) (before text : List ℕ) : Type 0 where
  pub short : length (decimal number) ≤ 20
  pub place : from + length (decimal number) ≡ end + length (decimal left)
  pub within : from ≤ end
  pub long : length text ≡ 43
  pub digits : decimal left ++ drop from text ≡ decimal number ++ drop end before

-- The digits stand from this place on, and behind them what stood there.
pub record HasDigitsFrom (number end from : ℕ) (before text : List ℕ) : Type 0 where
  pub short : length (decimal number) ≤ 20
  pub place : from + length (decimal number) ≡ end
  pub digits : drop from text ≡ decimal number ++ drop end before

pub nothing-written : (number end : ℕ) (text : List ℕ) → number < 2 ^ 64 → length text ≡ 43 → IsWrittenFrom number number end end text text
nothing-written number end text small long = record {
  short = omega (arith, length-decimal-le_wide 20 number (omega arith) (omega arith) (omega arith));
  place = refl;
  within = omega arith;
  long = long;
  digits = refl;
}

module _ (number left end from : ℕ) (before text : List ℕ) (room : 20 ≤ end) (w : IsWrittenFrom number left end from before text) where
  -- there is room for the digits that are left
  pub room-left : length (decimal left) ≤ from
  room-left = omega (arith, room, w.short, w.place)

  -- two digits more
  pub pair-written : (next : List ℕ) → length next ≡ 43 → 100 ≤ left → left < 2 ^ 64 → drop (from - 2) next ≡ pair (left % 100) ++ drop from text →
      IsWrittenFrom number (left / 100) end (from - 2) before next
  pair-written next long low high added =
      let hundreds = decimal-hundreds left low high in
      record {
        short = w.short;
        place = omega (arith, room-left, w.place, ap length hundreds, length-append (decimal (left / 100)) (pair (left % 100)));
        within = omega (arith, w.within);
        long = long;
        digits = ap (λ ds. decimal (left / 100) ++ ds) added ∙ sym (append_assoc (decimal (left / 100)) (pair (left % 100)) (drop from text))
            ∙ ap (λ ds. ds ++ drop from text) (sym hundreds) ∙ w.digits;
      }

  -- the digits that are left
  last-written : (to : ℕ) (next : List ℕ) → to + length (decimal left) ≡ from → drop to next ≡ decimal left ++ drop from text →
      HasDigitsFrom number end to before next
  last-written to next place added = record {
    short = w.short;
    place = omega (arith, w.place, place);
    digits = added ∙ w.digits;
  }

  -- which are two
  pub last-pair : (next : List ℕ) → 10 ≤ left → left < 100 → drop (from - 2) next ≡ pair left ++ drop from text →
      HasDigitsFrom number end (from - 2) before next
  last-pair next low high added =
      let two = decimal-pair left low high in
      last-written (from - 2) next (omega (arith, ap length two, room-left)) (added ∙ ap (λ ds. ds ++ drop from text) (sym two))

  -- or one
  pub last-digit : left < 10 → end ≤ 43 → HasDigitsFrom number end (from - 1) before (set text (from - 1) (48 + left))
  last-digit high within =
      let one = decimal_digit left high in
      let from_is : from - 1 + 1 ≡ from = omega (arith, room-left, ap length one) in
      last-written (from - 1) (set text (from - 1) (48 + left)) (omega (arith, ap length one, room-left))
      (drop-set text (from - 1) (48 + left) (omega (arith, room-left, ap length one, within, w.within, w.long)) ∙ ap (λ k. (48 + left) ∷ drop k text) from_is
      ∙ ap (λ ds. ds ++ drop from text) (sym one))
