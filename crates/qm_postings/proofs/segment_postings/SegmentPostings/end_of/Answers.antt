use Rattle.std.proofs.Common.{ℕ, ◌*◌, ◌<◌, length, arith}
use Rattle.qm_docset.proofs.PlacesLeft.{few}
use Rattle.qm_postings.specs.SegmentPostings.{IsPostings}
use Rattle.qm_postings.specs.declared.segment_postings.SegmentPostings.{SegmentPostings}
use Rattle.qm_postings.proofs.BlockLemmas.{block_start, infos_count, more_block}
use Rattle.qm_postings.proofs.segment_postings.SegmentPostings.end_of.Goals as goal

-- a block begins among the postings
begins : (s : SegmentPostings) (b : ℕ) → IsPostings s → b < length s.arrays.blocks.now → b * s.arrays.block_len < length s.arrays.documents.now
begins s b h within =
    block_start b (length s.arrays.documents.now) s.arrays.block_len h.arrays.block_len (omega (arith, within, infos_count s.reading s.arrays h.arrays))

pub overflow_mul-start : goal.overflow_mul-start
overflow_mul-start c = omega (
  arith,
  begins c.args.self.now c.args.block c.requires.valid c.requires.within,
  few 0 c.args.self.now.arrays.documents.now c.requires.valid.arrays.documents,
)

pub overflow_sub-self : goal.overflow_sub-self
overflow_sub-self c = omega (arith, begins c.args.self.now c.args.block c.requires.valid c.requires.within)

pub overflow_add-result : goal.overflow_add-result
overflow_add-result c = omega (
  arith,
  begins c.args.self.now c.args.block c.requires.valid c.requires.within,
  few 0 c.args.self.now.arrays.documents.now c.requires.valid.arrays.documents,
)

pub returns : goal.returns
returns c = omega (arith, begins c.args.self.now c.args.block c.requires.valid c.requires.within, more_block c.args.block c.args.self.now.arrays.block_len)
