use Rattle.std.proofs.Common.{◌∙◌, arith, refl}
use Rattle.qm_store.proofs.DeletionSteps.{deleting-next}
use Rattle.qm_store.proofs.deletions.delete_all.Goals as goal

pub loop-number-preserved : goal.loop-number-preserved
loop-number-preserved c =
    let at = c.loop-number in
    c.in-Ok.ensures.deleted
    ∙ deleting-next at.segment c.args.segment.now c.args.numbers.now at.number-index _ (omega arith) refl c.requires.numbers at.invariant
