-- The clauses so far stand for the queries so far, whose fields serve.
use Rattle.std.proofs.Common.{◌≡◌, true, map, take}
use Rattle.std.specs.List.{list_all}
use Rattle.qm_query.specs.EnableScoring.{schema_of}
use Rattle.qm_query.proofs.ClauseWeights.{is_clause_served, query_clause, shared_clause}
use Rattle.qm_query.proofs.boolean_query.BooleanQuery.build_terms.Given as goal

abbrev pub invariant-loop-occur : goal.invariant-loop-occur
invariant-loop-occur g l = record {
  trees : map (shared_clause g.P.Bm25StatisticsProvider l.enable_scoring) l.clauses.items
      ≡ map (query_clause g.P.Bm25StatisticsProvider l.enable_scoring) (take l.occur-index l.self.subqueries.items);
  served : list_all (is_clause_served (schema_of l.enable_scoring)) (take l.occur-index l.self.subqueries.items) ≡ true;
}
