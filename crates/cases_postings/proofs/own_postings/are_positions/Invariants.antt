use Rattle.std.proofs.Common.{drop}
use Rattle.qm_postings.specs.Positions.{ArePositions}
use Rattle.qm_postings.specs.Segment.{AscendFrom}
use Rattle.cases_postings.proofs.own_postings.are_positions.Given as goal

abbrev pub invariant-loop-position : goal.invariant-loop-position
invariant-loop-position l = AscendFrom l.next (drop l.position-index l.positions) → ArePositions l.positions
