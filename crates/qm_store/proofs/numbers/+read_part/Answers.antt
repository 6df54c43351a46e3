use Rattle.std.proofs.Common.{◌<◌, arith}
use Rattle.qm_store.proofs.NumberBytes.{one_fits, part_small}
use Rattle.qm_store.proofs.numbers.+read_part.Goals as goal

pub returns-then-first-lt128-clause-fits : goal.returns-then-first-lt128-clause-fits
returns-then-first-lt128-clause-fits t c = omega (arith, one_fits c.args.more c.in_ok-first.first.now c.if-first-lt128.true, c.from.ensures)

pub overflow_mul-result : goal.overflow_mul-result
overflow_mul-result t c =
    let some : 0 < c.args.more = omega (arith, c.if-more-eq0.false) in
    omega (arith, part_small c.args.more c.in_ok-high.high c.requires.few some c.in_ok-high.ensures.fits)

pub overflow_add-result : goal.overflow_add-result
overflow_add-result t c =
    let some : 0 < c.args.more = omega (arith, c.if-more-eq0.false) in
    omega (arith, c.from-2.ensures, part_small c.args.more c.in_ok-high.high c.requires.few some c.in_ok-high.ensures.fits)
