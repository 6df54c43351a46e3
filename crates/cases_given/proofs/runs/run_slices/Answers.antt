-- The callback may always be called.
use Rattle.std.proofs.Common.{rules}
use Rattle.qm_term.specs.RunsFacts.{MayCallEach-always}
use Rattle.cases_given.proofs.runs.run_slices.Goals as goal

pub for_each_no_score-run-requires : goal.for_each_no_score-run-requires
for_each_no_score-run-requires c c' = record { allowed = search (rules, MayCallEach-always) }
