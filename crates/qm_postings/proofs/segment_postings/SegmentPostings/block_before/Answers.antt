-- The ends of blocks rise, so where that before the block looked at is below the target all before it are.
use Rattle.std.proofs.Common.{◌-◌, arith}
use Rattle.qm_postings.proofs.BlockLemmas.{block_within, ends_rise, last_read}
use Rattle.qm_postings.proofs.segment_postings.SegmentPostings.block_before.Goals as goal

pub returns-then-self-clause-within : goal.returns-then-self-clause-within
returns-then-self-clause-within c = omega (arith, c.block_here-here.ensures, block_within c.args.self.now c.requires.valid c.requires.here)

pub returns-then-blocks-self-clause-passed : goal.returns-then-blocks-self-clause-passed
returns-then-blocks-self-clause-passed c = λ b d from lt.
    let s = c.args.self.now in
    let a = s.arrays in
    let v = c.requires.valid in
    let inside = (v.look (omega arith) c.requires.here).1 in
    omega (
      arith,
      ends_rise s.reading a v.arrays b (s.look - 1) d (omega arith) (omega (arith, inside)),
      last_read s.reading a.blocks.now (s.look - 1) d (omega (arith, inside)),
      c.if-blocks-self.true,
    )
