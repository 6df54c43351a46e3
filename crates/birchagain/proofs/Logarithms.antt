-- Bounds of a logarithm whose bits are found one after another.
use Rattle.std.proofs.Common.{◌≡◌, ◌<◌, ◌≤◌, ◌+◌, ◌*◌, ◌^◌, ℕ, add-one, ap, arith, ◌∙◌, sym}
use Rattle.std.proofs.Math.Nat.{lt_of_not-le, mul_assoc, pow-suc}
use Rattle.std.proofs.Math.Pow.{pow_mono}

-- one bit more
pub doubled : (n bit log twice : ℕ) → log < n * 2 ^ bit → twice ≤ log * 2 + 1 → twice < n * 2 ^ (bit + 1)
doubled n bit log twice below step =
    let two : n * 2 ^ (bit + 1) ≡ n * 2 ^ bit * 2 =
    ap (λ k. n * 2 ^ k) (add-one bit) ∙ ap (λ k. n * k) (pow-suc 2 bit) ∙ sym (mul_assoc n (2 ^ bit) 2) in
    omega (arith, below, step, two)

-- the place of the highest bit of a number
pub highest_bit : (number place : ℕ) → number < 2 ^ 126 → 2 ^ place ≤ number → place < 126
highest_bit number place small some = lt_of_not-le (λ h. let more = pow_mono h in omega (arith, more, small, some))
