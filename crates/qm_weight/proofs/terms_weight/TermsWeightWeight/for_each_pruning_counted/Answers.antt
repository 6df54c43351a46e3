-- What may be called from a threshold on may be called from the same number read back.
use Rattle.std.proofs.Common.{w64}
use Rattle.std.proofs.lemmas.Int.{to_z-of_z}
use Rattle.qm_weight.proofs.terms_weight.TermsWeightWeight.for_each_pruning_counted.Goals as goal

pub prune_terms-requires-clause-allowed : goal.prune_terms-requires-clause-allowed
prune_terms-requires-clause-allowed g c = rw (to_z-of_z w64 c.args.threshold c.ranges.threshold) c.requires.allowed
