use Rattle.std.proofs.Common.{◌≡◌, ◌++◌, take}
use Rattle.qm_postings.proofs.frequencies.Frequencies.extend_from_slice.Given as goal

abbrev pub invariant-loop-frequency : goal.invariant-loop-frequency
invariant-loop-frequency l = l.self ≡ l.fn.self ++ take l.frequency-index l.frequencies
