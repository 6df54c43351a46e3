-- The visitor may always be called.
use Rattle.std.proofs.Common.{rules}
use Rattle.qm_term.specs.RunsFacts.{MayCallEach-always}
use Rattle.cases_queries.proofs.getters.write_named.Goals as goal

pub query_terms-requires : goal.query_terms-requires
query_terms-requires c c' = record { allowed = search (rules, MayCallEach-always) }
