use Rattle.std.proofs.Common.{◌≡◌, ◌<◌, arith, drop, length, map}
use Rattle.qm_docset.specs.declared.numbers.TheConstants.{TERMINATED}
use Rattle.qm_term.specs.Heads.{listed, lists}
use Rattle.qm_term.specs.Pivot.{skip}
use Rattle.qm_term.proofs.RowFront.{skip_none}
use Rattle.qm_term.proofs.RowRecords.{zeros}
use Rattle.qm_term.proofs.RowStretch.{end_by, end_next}
use Rattle.qm_term.proofs.WandBounds.{skip_le_end}
use Rattle.qm_term.proofs.wand.stretches.skip_from.Goals as goal

pub loop-k-init : goal.loop-k-init
loop-k-init c = record {
  end = omega arith;
  skip = λ ms records known. omega (arith, skip_le_end c.args.low (lists ms c.args.heads.now));
}

pub loop-k-preserved : goal.loop-k-preserved
loop-k-preserved c =
    let hs = c.args.heads.now in
    let k = c.loop-k.k in
    let inside = c.loop-k.invariant in
    let l : k < length hs = omega (arith, c.loop-k-test.true) in
    record {
      end = omega (arith, c.min-least.ensures, inside.end);
      skip = λ ms records known. end_next ms hs c.args.low k zeros l c.loop-k.least c.end_from.result c.min-least.result _ c.min-least.ensures
          (end_by ms hs c.args.low k zeros records l (known k zeros l) c.end_from.result c.end_from.ensures.here c.end_from.ensures.past)
          inside.end (inside.skip ms records known);
    }

pub returns-clause-skip : goal.returns-clause-skip
returns-clause-skip c = λ ms records known.
    let hs = c.args.heads.now in
    let none : TERMINATED ≡ skip c.args.low (map (listed ms) (drop c.loop-k.k hs)) = skip_none ms hs c.loop-k.k c.args.low (omega (arith, c.loop-k-test.false)) in
    omega (arith, none, c.loop-k.invariant.end, c.loop-k.invariant.skip ms records known)
