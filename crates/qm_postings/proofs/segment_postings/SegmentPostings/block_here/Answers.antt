use Rattle.std.proofs.Common.{arith}
use Rattle.qm_postings.proofs.BlockLemmas.{number_of_place}
use Rattle.qm_postings.proofs.segment_postings.SegmentPostings.block_here.Goals as goal

pub returns-then-self : goal.returns-then-self
returns-then-self c =
    let s = c.args.self.now in
    let v = c.requires.valid in
    number_of_place s.cursor s.block s.arrays.block_len v.arrays.block_len v.block (omega (arith, c.if-self.true, v.block_end))
