-- At most 4294967295 segments have at most so many documents each.
use Rattle.std.proofs.Common.{◌≤◌, ◌<◌, arith, rules}
use Rattle.qm_query.proofs.searches.count_holders.Goals as goal

pub overflow_add-count : goal.overflow_add-count
overflow_add-count c =
    let few : c.loop-reader.reader-index < 4294967295 = omega arith in
    let here : c.count_term.result ≤ 4294967295 = search rules in
    omega (arith, c.loop-reader.invariant.fits, few, here)
