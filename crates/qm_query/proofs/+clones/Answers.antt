-- A row asks for what its list asks for.
use Rattle.std.proofs.Common.{rules}
use Rattle.qm_query.specs.declared.any_query.AnyQuery as q
use Rattle.qm_query.proofs.Rows.{row_disjuncts-items, row_subqueries-items}
use Rattle.qm_query.proofs.+clones.Goals as goal

pub any_query::AnyQuery::clone-returns-in_ok-clone-in-Boolean-clause-same :
    goal.any_query::AnyQuery::clone-returns-in_ok-clone-in-Boolean-clause-same
any_query::AnyQuery::clone-returns-in_ok-clone-in-Boolean-clause-same t c = search (rules, q.the_lemmas, row_subqueries-items)

pub any_query::AnyQuery::clone-returns-in_ok-clone-in-DisjunctionMax-clause-same :
    goal.any_query::AnyQuery::clone-returns-in_ok-clone-in-DisjunctionMax-clause-same
any_query::AnyQuery::clone-returns-in_ok-clone-in-DisjunctionMax-clause-same t c = search (rules, q.the_lemmas, row_disjuncts-items)
