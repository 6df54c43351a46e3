-- Those before this one have.
use Rattle.std.proofs.Common.{take}
use Rattle.birchagain_partitions.specs.Merging.{HaveNumbers}
use Rattle.birchagain_partitions.proofs.merging.have_numbers.Given as goal

abbrev pub invariant-loop-hit : goal.invariant-loop-hit
invariant-loop-hit l = HaveNumbers l.offset (take l.hit-index l.hits)
