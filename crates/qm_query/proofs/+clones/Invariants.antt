-- What was copied so far asks for the same.
use Rattle.std.proofs.Common.{◌≡◌, map, take}
use Rattle.qm_query.specs.Query.{clause_of, query_of}
use Rattle.qm_query.proofs.+clones.Given as goal

abbrev pub invariant-boolean_query::BooleanQuery::clone-loop-occur :
    goal.invariant-boolean_query::BooleanQuery::clone-loop-occur
invariant-boolean_query::BooleanQuery::clone-loop-occur l =
    map clause_of l.subqueries.items ≡ map clause_of (take l.occur-index l.self.subqueries.items)

abbrev pub invariant-disjunction_max_query::DisjunctionMaxQuery::clone-loop-query :
    goal.invariant-disjunction_max_query::DisjunctionMaxQuery::clone-loop-query
invariant-disjunction_max_query::DisjunctionMaxQuery::clone-loop-query l =
    map (λ q. query_of q.value) l.disjuncts.items ≡ map (λ q. query_of q.value) (take l.query-index l.self.disjuncts.items)
