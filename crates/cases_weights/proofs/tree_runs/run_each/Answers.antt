-- The callback may always be called.
use Rattle.std.proofs.Common.{rules}
use Rattle.qm_term.specs.RunsFacts.{MayCallEach-always}
use Rattle.cases_weights.proofs.tree_runs.run_each.Goals as goal

pub for_each_scorer-requires-clause-allowed : goal.for_each_scorer-requires-clause-allowed
for_each_scorer-requires-clause-allowed c = search (rules, MayCallEach-always)
