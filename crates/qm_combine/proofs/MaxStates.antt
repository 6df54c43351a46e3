-- The states of a combiner that takes the greatest score and a part of the others.
use Rattle.std.specs.Prelude.{◌≡◌, ℕ, ◌+◌, ◌*◌, ◌/◌, ◌%◌, ◌≤◌}
use Rattle.std.proofs.Common.{arith, sym, ap, ◌∙◌}
use Rattle.std.proofs.Math.Bridge.{le_prop}
use Rattle.std.proofs.Math.Nat.{add-mul-div_left}
use Rattle.qm_combine.specs.Combine.{MaxState}

-- some thousandths can be taken of the whole thousands of a number and of the rest apart
product-parts : (n q r t : ℕ) → 1000 * q + r ≡ n → n * t ≡ r * t + 1000 * (q * t)
product-parts n q r t e = ap (λ m. m * t) (sym e) ∙ omega arith

pub thousandths-parts : (n t : ℕ) → n / 1000 * t + (n % 1000 * t) / 1000 ≡ (n * t) / 1000
thousandths-parts n t =
    let whole : n * t ≡ n % 1000 * t + 1000 * (n / 1000 * t) = product-parts n (n / 1000) (n % 1000) t (omega arith) in
    let apart : (n * t) / 1000 ≡ (n % 1000 * t) / 1000 + n / 1000 * t = ap (λ p. p / 1000) whole
    ∙ add-mul-div_left (n % 1000 * t) (n / 1000 * t) (omega arith) in
    omega arith

-- two states with one tie breaker are the same where their scores are
pub MaxState-same : (t g n g' n' : ℕ) (h h' : t ≤ 1000) → g ≡ g' → n ≡ n' → (let a : MaxState =
    record { greatest = g; total = n; tie_breaker = t; at_most_whole = h } in a) ≡ record { greatest = g'; total = n'; tie_breaker = t; at_most_whole = h' }
MaxState-same t g n g' n' h h' greatest total = λ i. record { greatest = greatest i; total = total i; tie_breaker = t; at_most_whole = le_prop h h' i }
