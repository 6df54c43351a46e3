-- The callback may always be called.
use Rattle.std.proofs.Common.{rules}
use Rattle.qm_term.specs.RunsFacts.{MayPrune-always}
use Rattle.cases_given.proofs.runs.run_pruning.Goals as goal

pub for_each_pruning-run-requires : goal.for_each_pruning-run-requires
for_each_pruning-run-requires c c' = record { allowed = λ es is. search (rules, MayPrune-always) }
