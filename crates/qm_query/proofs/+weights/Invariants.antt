-- The weights so far stand for the clauses so far, whose fields serve.
use Rattle.std.proofs.Common.{◌≡◌, true, map, take}
use Rattle.std.specs.List.{list_all}
use Rattle.qm_query.specs.EnableScoring.{schema_of}
use Rattle.qm_query.proofs.ClauseWeights.{disjunct_clause, is_clause_served, is_disjunct_served, query_clause, weight_clause}
use Rattle.qm_query.proofs.+weights.Given as goal

abbrev pub invariant-boolean_query::BooleanQuery::build_weight-loop-occur :
    goal.invariant-boolean_query::BooleanQuery::build_weight-loop-occur
invariant-boolean_query::BooleanQuery::build_weight-loop-occur g l = record {
  trees : map weight_clause l.weights.items ≡ map (query_clause g.P.Bm25StatisticsProvider l.enable_scoring) (take l.occur-index l.self.subqueries.items);
  served : list_all (is_clause_served (schema_of l.enable_scoring)) (take l.occur-index l.self.subqueries.items) ≡ true;
}

abbrev pub invariant-disjunction_max_query::DisjunctionMaxQuery::build_weight-loop-query :
    goal.invariant-disjunction_max_query::DisjunctionMaxQuery::build_weight-loop-query
invariant-disjunction_max_query::DisjunctionMaxQuery::build_weight-loop-query g l = record {
  trees : map weight_clause l.weights.items ≡ map (disjunct_clause g.P.Bm25StatisticsProvider l.enable_scoring) (take l.query-index l.self.disjuncts.items);
  served : list_all (is_disjunct_served (schema_of l.enable_scoring)) (take l.query-index l.self.disjuncts.items) ≡ true;
}
