use Rattle.std.proofs.Common.{ℕ, ◌-◌, ◌/◌, ◌<◌, ◌≤◌, length, get_or}
use Rattle.qm_postings.specs.Blocks.{Block}
use Rattle.qm_postings.specs.SegmentPostings.{postings_blocks}
use Rattle.qm_postings.proofs.segment_postings.SegmentPostings.block_from.Given as goal

abbrev pub invariant-loop-stride : goal.invariant-loop-stride
invariant-loop-stride l = record {
  from : l.self.cursor / l.self.arrays.block_len ≤ l.low;
  ordered : l.low ≤ l.high;
  within : l.high < length l.self.arrays.blocks.now;
  positive : 1 ≤ l.stride;
  passed : (b : ℕ) (d : Block) → l.self.cursor / l.self.arrays.block_len ≤ b → b < l.low → (get_or (postings_blocks l.self) b d).last < l.target;
  reached : (d : Block) → l.target ≤ (get_or (postings_blocks l.self) l.high d).last;
}

abbrev pub decreases-loop-stride : goal.decreases-loop-stride
decreases-loop-stride l = l.high - l.low

abbrev pub invariant-loop-low : goal.invariant-loop-low
invariant-loop-low l = record {
  from : l.self.cursor / l.self.arrays.block_len ≤ l.low;
  ordered : l.low ≤ l.high;
  within : l.high < length l.self.arrays.blocks.now;
  passed : (b : ℕ) (d : Block) → l.self.cursor / l.self.arrays.block_len ≤ b → b < l.low → (get_or (postings_blocks l.self) b d).last < l.target;
  reached : (d : Block) → l.target ≤ (get_or (postings_blocks l.self) l.high d).last;
}

abbrev pub decreases-loop-low : goal.decreases-loop-low
decreases-loop-low l = l.high - l.low
