use Rattle.std.proofs.Common.{◌<◌, length, get_or, arith, ap, sym, ◌∙◌}
use Rattle.std.proofs.lemmas.List.{get_or-map}
use Rattle.qm_postings.specs.Blocks.{block_read, no_block}
use Rattle.qm_postings.specs.SegmentPostings.{postings_blocks}
use Rattle.qm_postings.proofs.BlockLemmas.{blocks_small, looked_inside, looked_outside, looked_within}
use Rattle.qm_postings.proofs.segment_postings.SegmentPostings.block_looked_at.Goals as goal

pub returns-then-self : goal.returns-then-self
returns-then-self c = looked_outside c.args.self.now (omega arith)

pub number_looked_at-requires : goal.number_looked_at-requires
number_looked_at-requires c = record { valid = c.requires; here = omega (arith, c.requires.place) }

pub offset_bounds-blocks-number_looked_at : goal.offset_bounds-blocks-number_looked_at
offset_bounds-blocks-number_looked_at c = omega (
  arith,
  c.number_looked_at.ensures,
  looked_within c.args.self.now c.requires (omega (arith, c.requires.place)),
  blocks_small c.args.self.now.reading c.args.self.now.arrays c.requires.arrays,
)

pub bounds-blocks-number_looked_at : goal.bounds-blocks-number_looked_at
bounds-blocks-number_looked_at c = omega (arith, c.number_looked_at.ensures, looked_within c.args.self.now c.requires (omega (arith, c.requires.place)))

pub returns : goal.returns
returns c =
    let s = c.args.self.now in
    let inside : s.cursor < length s.arrays.documents.now = omega (arith, c.requires.place) in
    let within = looked_within s c.requires inside in
    looked_inside s inside ∙ ap (λ n. get_or (postings_blocks s) n no_block) (sym c.number_looked_at.ensures)
    ∙ get_or-map (block_read s.reading) s.arrays.blocks.now c.number_looked_at.result _ no_block (omega (arith, c.number_looked_at.ensures, within))
