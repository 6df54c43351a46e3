-- The callback may always be called.
use Rattle.std.proofs.Common.{rules}
use Rattle.qm_term.specs.RunsFacts.{MayPrune-always}
use Rattle.cases_weights.proofs.tree_runs.run_pruning.Goals as goal

pub for_each_pruning_scorer-requires-clause-allowed :
    goal.for_each_pruning_scorer-requires-clause-allowed
for_each_pruning_scorer-requires-clause-allowed c = search (rules, MayPrune-always)
