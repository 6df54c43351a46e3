use Rattle.std.proofs.Common.{get_or, take, arith, ap}
use Rattle.std.proofs.lemmas.List.{take_more}
use Rattle.qm_scorer.specs.LeastDocs.{least_of}
use Rattle.qm_scorer.proofs.LeastRows.{least_of-more, least_of-most}
use Rattle.qm_scorer.proofs.least_docs.least_doc.Goals as goal

pub loop-i-preserved : goal.loop-i-preserved
loop-i-preserved c =
    omega (
      arith,
      c.min-least.ensures,
      c.loop-i.invariant,
      least_of-most (take c.loop-i.i c.args.docs.now),
      least_of-more (take c.loop-i.i c.args.docs.now) (get_or c.args.docs.now c.loop-i.i 0),
      ap least_of (take_more c.args.docs.now c.loop-i.i 0 c.loop-i-test.true),
    )
