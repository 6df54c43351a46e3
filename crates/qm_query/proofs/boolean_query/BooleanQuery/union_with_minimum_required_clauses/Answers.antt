use Rattle.std.proofs.Common.{ap, map, ◌∙◌}
use Rattle.qm_schema.specs.declared.occur.Occur.TheVariants.{Should}
use Rattle.qm_query.specs.Query.{boolean, clause_of, subqueries}
use Rattle.qm_query.proofs.BuilderLemmas.{clauses_each}
use Rattle.qm_query.proofs.boolean_query.BooleanQuery.union_with_minimum_required_clauses.Goals as goal

pub returns-clause-ok : goal.returns-clause-ok
returns-clause-ok c =
    let minimum = c.args.minimum_number_should_match in
    c.with_minimum_required_clauses.ensures ∙ ap (λ l. boolean minimum (subqueries (map clause_of l))) c.in_ok-should.ensures.ok
    ∙ ap (λ l. boolean minimum (subqueries l)) (clauses_each Should c.args.queries.items)
