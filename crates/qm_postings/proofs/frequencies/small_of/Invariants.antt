use Rattle.std.proofs.Common.{◌≡◌, take}
use Rattle.qm_postings.proofs.frequencies.small_of.Given as goal

abbrev pub invariant-loop-frequency : goal.invariant-loop-frequency
invariant-loop-frequency l = l.small.items ≡ take l.frequency-index l.frequencies
