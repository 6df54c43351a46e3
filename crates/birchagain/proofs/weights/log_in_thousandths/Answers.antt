use Rattle.std.proofs.Common.{rules, ◌≡◌, ◌<◌, ◌≤◌, ◌+◌, ◌*◌, ◌^◌, ◌/◌, arith, subst}
use Rattle.birchagain.proofs.Logarithms.{doubled, highest_bit}
use Rattle.birchagain.proofs.weights.log_in_thousandths.Goals as goal
use Rattle.birchagain.proofs.weights.log_in_thousandths.Goals.{then-part, else-part}

pub loop-bit-preserved : goal.loop-bit-preserved
loop-bit-preserved c =
    let n = c.saturating_sub-power.result + 1 in
    elim c.if-part.branch [
      | then-part w ↦ doubled n c.loop-bit.bit c.loop-bit.log c.if-part.log c.loop-bit.invariant
          (omega (arith, w.log-is, w.saturating_add-log.ensures, c.saturating_mul-log.ensures))
      | else-part w ↦ doubled n c.loop-bit.bit c.loop-bit.log c.if-part.log c.loop-bit.invariant (omega (arith, w.log-is, c.saturating_mul-log.ensures))
    ]

pub returns : goal.returns
returns c =
    let small : c.max-number.result < 2 ^ 126 = omega (arith, c.max-number.ensures, c.requires.few) in
    let power = highest_bit c.max-number.result c.ilog2.result small c.ilog2.ensures.power_le in
    let all : c.loop-bit.bit ≡ 40 = omega (arith, c.loop-bit-test.false, c.loop-bit.auto.bit-end) in
    let below : c.loop-bit.log < (c.saturating_sub-power.result + 1) * 1099511627776 =
    subst (λ b. c.loop-bit.log < (c.saturating_sub-power.result + 1) * 2 ^ b) all c.loop-bit.invariant in
    let log : c.loop-bit.log < 66 * 1099511627776 = omega (arith, below, power, c.saturating_sub-power.ensures) in
    let product : c.saturating_mul-trillionths.result ≤ 66 * 1099511627776 * 693147180560 = omega (arith, log, c.saturating_mul-trillionths.ensures) in
    let few : c.saturating_mul-trillionths.result / 1099511627776000000000 ≤ 45747 = omega (arith, product) in
    search rules
