-- Words that write numbers.
use Rattle.std.proofs.Common.{◌≡◌, ◌≢◌, ℕ, ◌<◌, ◌==◌, ◌&&◌, [], ◌∷◌, subst, Result, Ok, Err, drop, get_or, neg_ℤ, arith, inl, inr, w64, Bool, true, false, List}
use Rattle.std.proofs.Common.{Option, None, Some, option_map, pos, ℤ, length, nat_lt, refl, ap, sym, ◌∙◌, SomeIff, if◌then◌else◌, rules}
use Rattle.std.proofs.lemmas.Bool.{true≢false, cases_eq, ltb-true, lt-ltb, ne_eqb}
use Rattle.std.proofs.lemmas.Str.Parse.{IsNumeralModel, numerals_by_value, parse_signed_minus, parse_signed_plain}
use Rattle.std.specs.Str.{all_ascii_digits}
use Rattle.std.specs.Char.{digit_value}
use Rattle.std.specs.Result.{result_ok}
use Rattle.std.specs.Str.Parse.{AllDigits, IsNumeral, ParsesSigned, digits_value, starts_with_minus}
use Rattle.qm_script.specs.Script.{number_below, threshold_of}

own : IsNumeralModel (λ ds. all_ascii_digits ds ≡ true) (digits_value 10)
own = numerals_by_value _ (search rules)

none_or : (b : Bool) (x : ℕ) → (b ≡ true → ⊥) → None ≡ (if b then Some x else None)
none_or true x h = absurd (h refl)
none_or false x h = refl

some_if : (b : Bool) (x y : ℕ) → b ≡ true → x ≡ y → Some x ≡ (if b then Some y else None)
some_if b x y h e = rw h (ap (λ n. Some n) e)

both_true : (a b : Bool) → a && b ≡ true → (a ≡ true) × (b ≡ true)
both_true true true h = (refl, refl)
both_true true false h = absurd (true≢false (sym h))
both_true false b h = absurd (true≢false (sym h))

all_true : (a b c : Bool) → a ≡ true → b ≡ true → c ≡ true → a && (b && c) ≡ true
all_true a b c x y z = rw (x, y, z) refl

pub number-below : (limit : ℕ) (word : List ℕ) (r : Option ℕ) →
    SomeIff r (IsNumeral 10 word × (digits_value 10 word < limit)) (digits_value 10 word) → r ≡ number_below limit word
unfolding number_below
number-below limit word None h = none_or _ (digits_value 10 word) (λ t.
    let x = both_true (nat_lt 0 (length word)) (all_ascii_digits word && nat_lt (digits_value 10 word) limit) t in
    let y = both_true (all_ascii_digits word) (nat_lt (digits_value 10 word) limit) x.1 in
    h ((ltb-true 0 (length word) x.0, own.to word y.0), ltb-true (digits_value 10 word) limit y.1))
number-below limit word (Some n) h =
    some_if _ n (digits_value 10 word) (all_true _ _ _ (lt-ltb 0 (length word) h.0.0.0) (own.from word h.0.0.1) (lt-ltb (digits_value 10 word) limit h.0.1)) h.1

-- the same where it is taken as a score
pub score-below : (limit : ℕ) (word : List ℕ) (r : Option ℤ) →
    SomeIff r (IsNumeral 10 word × (digits_value 10 word < limit)) (pos (digits_value 10 word)) → r ≡ option_map pos (number_below limit word)
score-below limit word None h = ap (option_map pos) (number-below limit word None h)
score-below limit word (Some z) h = ap (λ n. Some n) h.1 ∙ ap (option_map pos) (number-below limit word (Some (digits_value 10 word)) (h.0, refl))

-- ---- thresholds

when_minus : (word : List ℕ) (x y : Option ℤ) (r : Option ℤ) → get_or word 0 0 ≡ 45 → r ≡ x → r ≡ (if starts_with_minus word then x else y)
when_minus word x y r h e = e ∙ ap (λ b. if b == 45 then x else y) (sym h)

when_no_minus : (word : List ℕ) (x y : Option ℤ) (r : Option ℤ) → get_or word 0 0 ≢ 45 → r ≡ y → r ≡ (if starts_with_minus word then x else y)
when_no_minus word x y r h e = e ∙ ap (λ b. if b then x else y) (sym (ne_eqb (get_or word 0 0) 45 h))

no_numeral : (word : List ℕ) (limit : ℕ) → get_or word 0 0 ≡ 43 → None ≡ number_below limit word
no_numeral [] limit h = let none : 0 ≡ 43 = h in let no : ⊥ = omega (none, arith) in absurd no
no_numeral (b ∷ word) limit h = number-below limit (b ∷ word) None
    (λ p. let digit : digit_value 43 < 10 = subst (λ x. digit_value x < 10) h p.0.1.0 in let no : ⊥ = omega (digit, arith) in no)

-- a word that begins with a `+` writes none
pub no_plus : (word : List ℕ) → get_or word 0 0 ≡ 43 → None ≡ threshold_of word
unfolding threshold_of
no_plus word h = when_no_minus word _ _ None (λ minus. let no : ⊥ = omega (h, minus, arith) in no) (ap (option_map pos) (no_numeral word 9223372036854775808 h))

signed-minus : {E : Type 0} (word : List ℕ) (r : Result ℤ E) → ParsesSigned w64 10 word r → get_or word 0 0 ≡ 45 →
    result_ok r ≡ option_map (λ n. neg_ℤ (pos n)) (number_below 9223372036854775809 (drop 1 word))
signed-minus {E} word (Ok z) parses minus =
    let h = parse_signed_minus own {E = E} w64 word (Ok z) parses minus in
    let digits = drop 1 word in
    ap (λ n. Some n) h.1 ∙ ap (option_map (λ n. neg_ℤ (pos n)))
    (number-below 9223372036854775809 digits (Some (digits_value 10 digits)) (((h.0.1, own.to digits h.0.0), omega (arith, h.0.2)), refl))
signed-minus {E} word (Err e) parses minus =
    let h = parse_signed_minus own {E = E} w64 word (Err e) parses minus in
    let digits = drop 1 word in
    ap (option_map (λ n. neg_ℤ (pos n))) (number-below 9223372036854775809 digits None (λ p. h (own.from digits p.0.1, p.0.0, omega (arith, p.1))))

signed-plain : {E : Type 0} (word : List ℕ) (r : Result ℤ E) → ParsesSigned w64 10 word r → get_or word 0 0 ≢ 43 →
    get_or word 0 0 ≢ 45 → result_ok r ≡ option_map pos (number_below 9223372036854775808 word)
signed-plain {E} word (Ok z) parses plain no_minus =
    let h = parse_signed_plain own {E = E} w64 word (Ok z) parses plain no_minus in
    score-below 9223372036854775808 word (Some z) (((h.0.1, own.to word h.0.0), h.0.2), h.1)
signed-plain {E} word (Err e) parses plain no_minus =
    let h = parse_signed_plain own {E = E} w64 word (Err e) parses plain no_minus in
    score-below 9223372036854775808 word None (λ p. h (own.from word p.0.1, p.0.0, p.1))

-- digits alone, and digits behind a `-`
first-digit : (digits : List ℕ) → 0 < length digits → AllDigits 10 digits → get_or digits 0 0 ≢ 45
first-digit [] some h e = absurd (omega (some, arith))
first-digit (b ∷ digits) some h e = let digit : digit_value 45 < 10 = subst (λ x. digit_value x < 10) e h.0 in let no : ⊥ = omega (digit, arith) in no

pub threshold-plain : (word : List ℕ) (n : ℕ) → IsNumeral 10 word → number_below 9223372036854775808 word ≡ Some n → threshold_of word ≡ Some (pos n)
unfolding threshold_of
threshold-plain word n numeral is = sym (when_no_minus word _ _ (Some (pos n)) (first-digit word numeral.0 numeral.1) (ap (option_map pos) (sym is)))

pub threshold-minus : (digits : List ℕ) (n : ℕ) → number_below 9223372036854775809 digits ≡ Some n → threshold_of (45 ∷ digits) ≡ Some (neg_ℤ (pos n))
unfolding threshold_of
threshold-minus digits n is = ap (option_map (λ n. neg_ℤ (pos n))) is

-- what is parsed as a signed number, and doesn't begin with a `+`
pub signed-below : {E : Type 0} (word : List ℕ) (r : Result ℤ E) → get_or word 0 0 ≢ 43 → ParsesSigned w64 10 word r → result_ok r ≡ threshold_of word
unfolding threshold_of
signed-below word r plain parses =
    elim (cases_eq (get_or word 0 0) 45) [
      | inl minus ↦ when_minus word _ _ _ minus (signed-minus word r parses minus)
      | inr no_minus ↦ when_no_minus word _ _ _ no_minus (signed-plain word r parses plain no_minus)
    ]
