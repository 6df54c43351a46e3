use Rattle.std.proofs.Common.{◌≡◌, sum, take}
use Rattle.qm_postings.proofs.frequencies.sum_of_small.Given as goal

abbrev pub invariant-loop-frequency : goal.invariant-loop-frequency
invariant-loop-frequency l = l.total ≡ sum (take l.frequency-index l.frequencies)
