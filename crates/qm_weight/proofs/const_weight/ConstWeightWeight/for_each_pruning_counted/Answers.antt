-- What may be called from a threshold on may be called from the same number read back.
use Rattle.std.proofs.Common.{w64}
use Rattle.std.proofs.lemmas.Int.{to_z-of_z}
use Rattle.qm_weight.proofs.const_weight.ConstWeightWeight.for_each_pruning_counted.Goals as goal

pub for_each_pruning_counted-requires : goal.for_each_pruning_counted-requires
for_each_pruning_counted-requires g c = record {
  allowed = rw (to_z-of_z w64 c.args.threshold c.ranges.threshold) c.requires.allowed;
}
