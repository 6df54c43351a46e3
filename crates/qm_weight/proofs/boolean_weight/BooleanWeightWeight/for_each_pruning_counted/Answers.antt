-- What may be called from a threshold on may be called from the same number read back.
use Rattle.std.proofs.Common.{w64}
use Rattle.std.proofs.lemmas.Int.{to_z-of_z}
use Rattle.qm_weight.proofs.boolean_weight.BooleanWeightWeight.for_each_pruning_counted.Goals as goal

pub prune_boolean-requires-clause-allowed : goal.prune_boolean-requires-clause-allowed
prune_boolean-requires-clause-allowed g c = rw (to_z-of_z w64 c.args.threshold c.ranges.threshold) c.requires.allowed
