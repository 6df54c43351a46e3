-- The callback may always be called.
use Rattle.std.proofs.Common.{rules}
use Rattle.qm_term.specs.RunsFacts.{MayCallEach-always}
use Rattle.cases_given.proofs.runs.run_called.Goals as goal

pub for_each-run-requires : goal.for_each-run-requires
for_each-run-requires c c' = record { allowed = λ es is. search (rules, MayCallEach-always) }
