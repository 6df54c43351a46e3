-- Where scoring is off all norms are zeros, and zeros don't decrease.
use Rattle.std.proofs.Common.{arith, ◌<◌, replicate}
use Rattle.std.specs.List.Sorted.{IsNonDecreasing}
use Rattle.std.proofs.lemmas.List.{get_or-replicate}

pub no_norms_ascending : IsNonDecreasing (replicate 256 0)
no_norms_ascending i j d order within =
    let first : i < 256 = omega (arith, order, within) in
    omega (arith, get_or-replicate 256 i 0 d first, get_or-replicate 256 j 0 d within)
