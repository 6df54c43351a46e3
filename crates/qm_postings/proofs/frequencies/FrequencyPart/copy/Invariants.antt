use Rattle.std.proofs.Common.{◌≡◌, take}
use Rattle.qm_postings.proofs.frequencies.FrequencyPart.copy.Given as goal

abbrev pub invariant-loop-frequency : goal.invariant-loop-frequency
invariant-loop-frequency l = l.frequencies.items ≡ take l.frequency-index l.frequency-items
