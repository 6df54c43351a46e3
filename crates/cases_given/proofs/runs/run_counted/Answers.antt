-- The callback may always be called.
use Rattle.std.proofs.Common.{rules}
use Rattle.qm_term.specs.RunsFacts.{MayPrune-always}
use Rattle.cases_given.proofs.runs.run_counted.Goals as goal

pub for_each_pruning_counted-run-requires : goal.for_each_pruning_counted-run-requires
for_each_pruning_counted-run-requires c c' = record { allowed = λ es is. search (rules, MayPrune-always) }
