-- What the leaves of a weight weigh are scores.
use Rattle.qm_weight.proofs.LeafWeights.{leaves-fit}
use Rattle.qm_query.proofs.fitting.check_fits.Goals as goal

pub returns-then-fits-clause-fits : goal.returns-then-fits-clause-fits
returns-then-fits-clause-fits c = record { leaves = leaves-fit c.args.weight.now; nodes = c.fits.ensures.0 c.if-fits.true }
