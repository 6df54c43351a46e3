-- A number that was written is read again.
use Rattle.std.proofs.Common.{◌≡◌, ℕ, zero, suc, ◌+◌, ◌-◌, ◌*◌, ◌/◌, ◌%◌, ◌^◌, ◌<◌, ◌≤◌, List, [], ◌∷◌, ◌++◌, Some, refl, ap, sym, subst, ◌∙◌, append_assoc, arith, inl, inr}
use Rattle.std.proofs.Math.Nat.{pow-suc, one-le-pow}
use Rattle.std.proofs.lemmas.Bool.{cases_lt, lt-ltb, le-ltb}
use Rattle.qm_store.specs.Numbers.{above, number_at, number_bytes}

pub bytes_last : (more n : ℕ) → n < 128 → number_bytes more n ≡ n ∷ []
bytes_last zero n h = refl
bytes_last (suc more) n h = rw (lt-ltb n 128 h) refl

bytes-more : (more n : ℕ) → 128 ≤ n → number_bytes (suc more) n ≡ (n % 128 + 128) ∷ number_bytes more (n / 128)
bytes-more more n h = rw (le-ltb n 128 h) refl

at-last : (more b : ℕ) (bs : List ℕ) → b < 128 → number_at more (b ∷ bs) ≡ Some (b, bs)
at-last zero b bs h = rw (lt-ltb b 128 h) refl
at-last (suc more) b bs h = rw (lt-ltb b 128 h) refl

at-more : (more b : ℕ) (bs : List ℕ) → 128 ≤ b → number_at (suc more) (b ∷ bs) ≡ above b (number_at more bs)
at-more more b bs h = rw (le-ltb b 128 h) refl

-- what lies above the lowest bits needs one byte less
above-fits : (more n : ℕ) → n < 128 ^ (suc more + 1) → n / 128 < 128 ^ (more + 1)
above-fits more n h =
    let e : suc more + 1 ≡ suc (more + 1) = omega arith in
    let fits : n < 128 ^ suc (more + 1) = subst (λ (k : ℕ). n < 128 ^ k) e h in
    omega (arith, fits, pow-suc 128 (more + 1))

whole-number : (n : ℕ) → n % 128 + 128 - 128 + 128 * (n / 128) ≡ n
whole-number n = omega arith

pub number-read : (more n : ℕ) (rest : List ℕ) → n < 128 ^ (more + 1) → number_at more (number_bytes more n ++ rest) ≡ Some (n, rest)
number-read zero n rest h = at-last zero n rest (omega (arith, h))
number-read (suc more) n rest h =
    elim (cases_lt n 128) [
      | inl lt ↦ ap (λ (bs : List ℕ). number_at (suc more) (bs ++ rest)) (bytes_last (suc more) n lt) ∙ at-last (suc more) n rest lt
      | inr le ↦
          let others = number-read more (n / 128) rest (above-fits more n h) in
          ap (λ (bs : List ℕ). number_at (suc more) (bs ++ rest)) (bytes-more more n le)
          ∙ at-more more (n % 128 + 128) (number_bytes more (n / 128) ++ rest) (omega arith)
          ∙ ap (above (n % 128 + 128)) others
          ∙ ap (λ (x : ℕ). Some (x, rest)) (whole-number n)
    ]

-- ---- what the steps of the code need

bytes-step : (more n : ℕ) → 128 ≤ n → n < 128 ^ (more + 1) → number_bytes more n ≡ (n % 128 + 128) ∷ number_bytes (more - 1) (n / 128)
bytes-step zero n le h = absurd (omega (arith, le, h))
bytes-step (suc more) n le h =
    let e : suc more - 1 ≡ more = omega arith in
    bytes-more more n le ∙ ap (λ (k : ℕ). (n % 128 + 128) ∷ number_bytes k (n / 128)) (sym e)

pub part_fits : (more n : ℕ) → 128 ≤ n → n < 128 ^ (more + 1) → n / 128 < 128 ^ (more - 1 + 1)
part_fits zero n le h = absurd (omega (arith, le, h))
part_fits (suc more) n le h =
    let e : suc more - 1 + 1 ≡ more + 1 = omega arith in
    subst (λ (k : ℕ). n / 128 < 128 ^ k) (sym e) (above-fits more n h)

pub one_fits : (more b : ℕ) → b < 128 → b < 128 ^ (more + 1)
one_fits more b h =
    let e : more + 1 ≡ suc more = omega arith in
    let big : 128 ≤ 128 ^ suc more = omega (arith, pow-suc 128 more, one-le-pow more 128 (omega arith)) in
    subst (λ (k : ℕ). b < 128 ^ k) (sym e) (omega (arith, h, big))

pub whole_fits : (more b high : ℕ) → 0 < more → b < 256 → high < 128 ^ (more - 1 + 1) → b - 128 + 128 * high < 128 ^ (more + 1)
whole_fits more b high some byte h =
    let e : more - 1 + 1 ≡ more = omega arith in
    let f : more + 1 ≡ suc more = omega arith in
    let below : high < 128 ^ more = subst (λ (k : ℕ). high < 128 ^ k) e h in
    subst (λ (k : ℕ). b - 128 + 128 * high < 128 ^ k) (sym f) (omega (arith, below, byte, pow-suc 128 more))

-- eight groups are below 2^56
pub part_small : (more high : ℕ) → more ≤ 8 → 0 < more → high < 128 ^ (more - 1 + 1) → high < 72057594037927936
part_small more high le some h =
    let e : more - 1 + 1 ≡ more = omega arith in
    let below : high < 128 ^ more = subst (λ (k : ℕ). high < 128 ^ k) e h in
    omega (arith, below, pow-le more 8 le)
  where
    pow-le : (a b : ℕ) → a ≤ b → 128 ^ a ≤ 128 ^ b
    pow-le a zero le = let none : a ≡ 0 = omega (arith, le) in subst (λ (k : ℕ). 128 ^ k ≤ 128 ^ 0) (sym none) (omega arith)
    pow-le a (suc b) le = elim (cases_lt a (suc b)) [
      | inl less ↦ omega (arith, pow-le a b (omega (arith, less)), pow-suc 128 b)
      | inr past ↦ let same : a ≡ suc b = omega (arith, le, past) in subst (λ (k : ℕ). 128 ^ k ≤ 128 ^ suc b) (sym same) (omega arith)
    ]

pub pushed : (xs : List ℕ) (more n : ℕ) → 128 ≤ n → n < 128 ^ (more + 1) →
    (xs ++ (n % 128 + 128) ∷ []) ++ number_bytes (more - 1) (n / 128) ≡ xs ++ number_bytes more n
pushed xs more n le h =
    append_assoc xs ((n % 128 + 128) ∷ []) (number_bytes (more - 1) (n / 128)) ∙ ap (λ (bs : List ℕ). xs ++ bs) (sym (bytes-step more n le h))
