use Rattle.std.proofs.Common.{rules, ◌≡◌, ◌∙◌}
use Rattle.qm_query.specs.declared.any_query.AnyQuery as q
use Rattle.qm_query.specs.Query.{Query, boolean_of}
use Rattle.qm_query.proofs.Rows.{row_subqueries-items}
use Rattle.qm_script.proofs.query_builder.build_boolean.Goals as goal

by : (a b c : Query) → a ≡ b → b ≡ c → a ≡ c
by a b c first second = first ∙ second

pub returns : goal.returns
returns c = by _ (boolean_of c.with_minimum_required_clauses-query.result) _
    (search (rules, q.the_lemmas, row_subqueries-items)) c.with_minimum_required_clauses-query.ensures
