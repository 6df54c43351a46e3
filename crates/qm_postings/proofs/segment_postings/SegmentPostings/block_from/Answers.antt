-- Doubling keeps what is passed and what is reached; halving finds the block between them.
use Rattle.std.proofs.Common.{◌+◌, ◌-◌, ◌/◌, ◌<◌, length, arith, rules}
use Rattle.qm_postings.proofs.BlockLemmas.{ends_at_end, ends_rise, last_read}
use Rattle.qm_postings.proofs.segment_postings.SegmentPostings.block_from.Goals as goal

pub loop-stride-init : goal.loop-stride-init
loop-stride-init c =
    let a = c.args.self.now.arrays in
    let first = c.block_before-low.ensures in
    record {
      from = first.from;
      ordered = omega (arith, first.within);
      within = omega (arith, first.within);
      positive = omega arith;
      passed = first.passed;
      reached = λ d. omega (
        arith,
        ends_at_end c.args.self.now.reading a c.requires.valid.arrays
            (length a.blocks.now - 1) d (omega (arith, first.within)) (omega arith),
        c.requires.target,
      );
    }

pub loop-stride-preserved : goal.loop-stride-preserved
loop-stride-preserved c =
    let s = c.args.self.now in
    let a = s.arrays in
    let had = c.loop-stride.invariant in
    let probe = c.loop-stride.low + (c.loop-stride.stride - 1) in
    let inside : probe < length a.blocks.now = omega (arith, had.within, had.positive) in
    record {
      from = omega (arith, had.from);
      ordered = omega (arith, had.positive);
      within = had.within;
      positive = search rules;
      passed = λ b d from lt.
          omega (arith, ends_rise s.reading a c.requires.valid.arrays b probe d (omega arith) inside, last_read s.reading a.blocks.now probe d inside);
      reached = had.reached;
    }

pub loop-low-preserved-then-blocks-middle : goal.loop-low-preserved-then-blocks-middle
loop-low-preserved-then-blocks-middle c =
    let s = c.args.self.now in
    let a = s.arrays in
    let had = c.loop-low.invariant in
    let middle = c.loop-low.low + (c.loop-low.high - c.loop-low.low) / 2 in
    let inside : middle < length a.blocks.now = omega (arith, had.within) in
    record {
      from = omega (arith, had.from);
      ordered = omega arith;
      within = had.within;
      passed = λ b d from lt.
          omega (arith, ends_rise s.reading a c.requires.valid.arrays b middle d (omega arith) inside, last_read s.reading a.blocks.now middle d inside);
      reached = had.reached;
    }
