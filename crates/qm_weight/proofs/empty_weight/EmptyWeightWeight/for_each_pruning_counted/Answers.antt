use Rattle.std.proofs.Common.{[]}
use Rattle.qm_weight.proofs.Leaves.{IsListOf-none}
use Rattle.qm_weight.proofs.RunSteps.{run-none}
use Rattle.qm_weight.proofs.empty_weight.EmptyWeightWeight.for_each_pruning_counted.Given as given
use Rattle.qm_weight.proofs.empty_weight.EmptyWeightWeight.for_each_pruning_counted.Goals as goal

pub returns-clause-calls : goal.returns-clause-calls
returns-clause-calls g c = record {
  entries = [];
  listed = IsListOf-none 1 _;
  run = run-none (given.F-step g) c.args._threshold c.args._callback.now c.counted_none.result c.counted_none.ensures;
}
