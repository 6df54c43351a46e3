use Rattle.std.proofs.Common.{◌↔◌, drop}
use Rattle.qm_postings.specs.Segment.{AscendFrom}
use Rattle.qm_postings.proofs.segment_builder.checks.do_ascend.Given as goal

abbrev pub invariant-loop-number : goal.invariant-loop-number
invariant-loop-number l = AscendFrom 0 l.numbers ↔ AscendFrom l.low (drop l.number-index l.numbers)
