-- The callback may always be called.
use Rattle.std.proofs.Common.{rules}
use Rattle.qm_term.specs.RunsFacts.{MayCallEach-always}
use Rattle.cases_weights.proofs.tree_runs.run_slices.Goals as goal

pub for_each_docset_buffered-requires-clause-allowed :
    goal.for_each_docset_buffered-requires-clause-allowed
for_each_docset_buffered-requires-clause-allowed c = search (rules, MayCallEach-always)
