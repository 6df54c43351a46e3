use Rattle.std.proofs.Common.{◌∙◌, ap, sym, arith, ◌≤◌, length}
use Rattle.qm_postings.specs.Blocks.{looked_at}
use Rattle.qm_postings.specs.SegmentPostings.{postings_blocks}
use Rattle.qm_postings.proofs.BlockLemmas.{head_end, looked_at-end, looked_outside, looks_at, looks_valid}
use Rattle.qm_postings.proofs.segment_postings.SegmentPostings.seek_block.Goals as goal

pub returns-then-self-clause-looked : goal.returns-then-self-clause-looked
returns-then-self-clause-looked c =
    let s = c.args.self.now in
    let past : length s.arrays.documents.now ≤ s.cursor = omega arith in
    looked_outside s past ∙ sym (looked_at-end c.args.target (postings_blocks s))
    ∙ ap (λ d. looked_at c.args.target d (postings_blocks s)) (sym (head_end s c.requires.valid past))

pub returns-clause-looked : goal.returns-clause-looked
returns-clause-looked c =
    let found = c.block_from-self.ensures in
    looks_at c.args.self.now c.requires.valid c.block_from-self.result
    (omega (arith, c.requires.valid.place)) c.args.target found.from found.within found.passed found.reached

pub returns-clause-valid : goal.returns-clause-valid
returns-clause-valid c =
    let found = c.block_from-self.ensures in
    looks_valid c.args.self.now c.requires.valid c.block_from-self.result (omega (arith, c.requires.valid.place)) c.args.target found.from found.within
