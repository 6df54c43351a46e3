-- A posting whose numbers have a byte each.
use Rattle.std.proofs.Common.{◌≡◌, ℕ, ◌-◌, ◌/◌, ◌%◌, ◌<◌, ◌≤◌, ◌==◌, cond, get_or, List, [], ◌∷◌, drop, length, Option, Some, ap, sym, ◌∙◌, arith, inl, inr}
use Rattle.std.proofs.lemmas.Bool.{cases_eq, eq-eqb, lt-ltb, ne_eqb}
use Rattle.qm_store.specs.Numbers.{above, number_at}
use Rattle.qm_store.specs.RowBytes.{followed_by, posting_at}

number-short : (b : ℕ) (bs : List ℕ) → b < 128 → number_at 8 (b ∷ bs) ≡ Some (b, bs)
number-short b bs small = ap (λ t. cond t (Some (b, bs)) (above b (number_at 7 bs))) (lt-ltb b 128 small)

abbrev then_frequency : ℕ → ℕ → List ℕ → Option ((ℕ × ℕ) × List ℕ)
then_frequency n f rest = Some ((n / 2, f), rest)

abbrev then_posting : ℕ → List ℕ → Option ((ℕ × ℕ) × List ℕ)
then_posting n rest = cond (n % 2 == 1) (Some ((n / 2, 1), rest)) (followed_by (number_at 8 rest) (then_frequency n))

pub posting_short : (bs : List ℕ) → 2 ≤ length bs → get_or bs 0 0 < 128 → get_or bs 1 0 < 128 →
    posting_at bs ≡ Some ((get_or bs 0 0 / 2, cond (get_or bs 0 0 % 2 == 1) 1 (get_or bs 1 0)), drop (2 - get_or bs 0 0 % 2) bs)
posting_short [] two first second = absurd (omega (arith, two))
posting_short (b ∷ []) two first second = absurd (omega (arith, two))
posting_short (b ∷ c ∷ rest) two first second =
    let begun = ap (λ (o : Option (ℕ × List ℕ)). followed_by o then_posting) (number-short b (c ∷ rest) first) in
    elim (cases_eq (b % 2) 1) [
      | inl odd ↦
          let yes = eq-eqb (b % 2) 1 odd in
          begun ∙ ap (λ t. cond t (Some ((b / 2, 1), c ∷ rest)) (followed_by (number_at 8 (c ∷ rest)) (then_frequency b))) yes
          ∙ (λ i. Some ((b / 2, cond (sym yes i) 1 c), drop (2 - sym odd i) (b ∷ c ∷ rest)))
      | inr even ↦
          let no = ne_eqb (b % 2) 1 even in
          let zero : b % 2 ≡ 0 = omega (arith, even) in
          begun ∙ ap (λ t. cond t (Some ((b / 2, 1), c ∷ rest)) (followed_by (number_at 8 (c ∷ rest)) (then_frequency b))) no
          ∙ ap (λ (o : Option (ℕ × List ℕ)). followed_by o (then_frequency b)) (number-short c rest second)
          ∙ (λ i. Some ((b / 2, cond (sym no i) 1 c), drop (2 - sym zero i) (b ∷ c ∷ rest)))
    ]
