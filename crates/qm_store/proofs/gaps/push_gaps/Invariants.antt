use Rattle.std.proofs.Common.{◌≡◌, ◌++◌, drop}
use Rattle.qm_postings.specs.Segment.{AscendFrom}
use Rattle.qm_store.specs.RowBytes.{gaps}
use Rattle.qm_store.proofs.gaps.push_gaps.Given as goal

abbrev pub invariant-loop-number : goal.invariant-loop-number
invariant-loop-number l = record {
  added : l.out.items ++ gaps l.low (drop l.number-index l.numbers) ≡ l.fn.out.items ++ gaps 0 l.numbers;
  ascending : AscendFrom l.low (drop l.number-index l.numbers);
}
