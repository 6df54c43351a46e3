use Rattle.std.proofs.Common.{◌≡◌, take}
use Rattle.qm_postings.specs.Kept.{greatest}
use Rattle.qm_postings.proofs.frequencies.greatest_of_small.Given as goal

abbrev pub invariant-loop-frequency : goal.invariant-loop-frequency
invariant-loop-frequency l = l.greatest ≡ greatest (take l.frequency-index l.frequencies)
