use Rattle.std.proofs.Common.{ap, map, ◌∙◌}
use Rattle.qm_schema.specs.declared.occur.Occur.TheVariants.{Must}
use Rattle.qm_query.specs.Query.{boolean_of_clauses, clause_of}
use Rattle.qm_query.proofs.BuilderLemmas.{clauses_each}
use Rattle.qm_query.proofs.boolean_query.BooleanQuery.intersection.Goals as goal

pub returns-clause-ok : goal.returns-clause-ok
returns-clause-ok c = c.new.ensures ∙ ap (λ l. boolean_of_clauses (map clause_of l)) c.in_ok-clauses.ensures.ok
    ∙ ap boolean_of_clauses (clauses_each Must c.args.queries.items)
