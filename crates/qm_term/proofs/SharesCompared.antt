-- Whether a frequency earns a part of the weight, by products alone.
use Rattle.std.proofs.Common.{◌≡◌, ◌∙◌, ℕ, ◌+◌, ◌-◌, ◌*◌, ◌<◌, ◌≤◌, ap, arith, inl, inr}
use Rattle.std.proofs.Math.Nat.{add-mul, mul-add, mul-le-mul_right}
use Rattle.std.proofs.lemmas.Bool.{cases_lt}
use Rattle.qm_term.specs.Bm25.{share}
use Rattle.qm_term.specs.Bm25Facts.{le-share, share-mul}

share-lt : (weight norm frequency part : ℕ) → weight * frequency < part * (frequency + norm) → share weight norm frequency < part
share-lt weight norm frequency part h = elim (cases_lt (share weight norm frequency) part) [
  | inl less ↦ less
  | inr enough ↦ absurd (omega (arith, h, mul-le-mul_right (frequency + norm) enough, share-mul weight norm frequency))
]

-- what the frequency has of the rest of the weight, beside what the norm has of the part
module _ (weight norm frequency part : ℕ) (within : part ≤ weight) where
  split : weight * frequency ≡ (weight - part) * frequency + part * frequency
  split =
      let is : weight ≡ weight - part + part = omega (arith, within) in
      ap (λ w. w * frequency) is ∙ add-mul (weight - part) part frequency

  pub share-less : (weight - part) * frequency < part * norm → share weight norm frequency < part
  share-less h = share-lt weight norm frequency part (omega (arith, h, split, mul-add part frequency norm))

  pub share-enough : 0 < frequency → part * norm ≤ (weight - part) * frequency → part ≤ share weight norm frequency
  share-enough here h = le-share weight norm frequency part here (omega (arith, h, split, mul-add part frequency norm))
