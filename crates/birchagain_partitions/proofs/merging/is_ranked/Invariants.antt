-- Those before this one are, so it is told by the others.
use Rattle.std.proofs.Common.{◌↔◌, drop}
use Rattle.birchagain_partitions.specs.Merging.{items}
use Rattle.birchagain_partitions.specs.Ranked.{IsRanked, IsRankedBelow}
use Rattle.birchagain_partitions.proofs.merging.is_ranked.Given as goal

abbrev pub invariant-loop-hit : goal.invariant-loop-hit
invariant-loop-hit l = IsRankedBelow l.bound (items (drop l.hit-index l.others)) ↔ IsRanked (items l.hits)
