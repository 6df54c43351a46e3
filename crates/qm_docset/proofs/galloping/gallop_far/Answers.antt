-- Doubling keeps what is passed and what is reached; halving finds the place between them.
use Rattle.std.proofs.Common.{◌+◌, ◌-◌, ◌/◌, arith, rules}
use Rattle.qm_docset.proofs.GallopFacts.{rises}
use Rattle.qm_docset.proofs.galloping.gallop_far.Goals as goal

pub loop-stride-preserved : goal.loop-stride-preserved
loop-stride-preserved c = record {
  from_start = omega arith;
  ordered = omega arith;
  within = omega arith;
  positive = search rules;
  passed = λ k l h. let top = rises _ c.requires.ascending k (c.loop-stride.low + (c.loop-stride.stride - 1)) (omega arith) (omega arith) in omega arith;
  reached = c.loop-stride.invariant.reached;
}

pub loop-low-preserved-then-docs-middle : goal.loop-low-preserved-then-docs-middle
loop-low-preserved-then-docs-middle c =
    let middle = c.loop-low.low + (c.loop-low.high - c.loop-low.low) / 2 in
    record {
      from_start = omega arith;
      ordered = omega arith;
      within = omega arith;
      passed = λ k l h. let top = rises _ c.requires.ascending k middle (omega arith) (omega arith) in omega arith;
      reached = c.loop-low.invariant.reached;
    }
