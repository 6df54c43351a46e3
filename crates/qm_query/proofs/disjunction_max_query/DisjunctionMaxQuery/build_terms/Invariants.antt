-- The clauses so far stand for the disjuncts so far, whose fields serve.
use Rattle.std.proofs.Common.{◌≡◌, true, map, take}
use Rattle.std.specs.List.{list_all}
use Rattle.qm_query.specs.EnableScoring.{schema_of}
use Rattle.qm_query.proofs.ClauseWeights.{disjunct_clause, is_disjunct_served, shared_clause}
use Rattle.qm_query.proofs.disjunction_max_query.DisjunctionMaxQuery.build_terms.Given as goal

abbrev pub invariant-loop-query : goal.invariant-loop-query
invariant-loop-query g l = record {
  trees : map (shared_clause g.P.Bm25StatisticsProvider l.enable_scoring) l.clauses.items
      ≡ map (disjunct_clause g.P.Bm25StatisticsProvider l.enable_scoring) (take l.query-index l.self.disjuncts.items);
  served : list_all (is_disjunct_served (schema_of l.enable_scoring)) (take l.query-index l.self.disjuncts.items) ≡ true;
}
