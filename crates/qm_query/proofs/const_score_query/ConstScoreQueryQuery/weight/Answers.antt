use Rattle.qm_query.specs.Query.{constant_of}
use Rattle.qm_query.proofs.ScoringTrees.{scores-made}
use Rattle.qm_query.proofs.const_score_query.ConstScoreQueryQuery.weight.Goals as goal

pub returns-clause-scoring : goal.returns-clause-scoring
returns-clause-scoring g c =
    scores-made g.P.Bm25StatisticsProvider c.args.enable_scoring (constant_of c.args.self.now) c.build_weight.result c.build_weight.ensures.tree
