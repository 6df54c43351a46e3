-- Scoring is on in the whole tree, or it is off.
use Rattle.qm_query.proofs.ScoringTrees.{scoring_if_enabled}
use Rattle.qm_query.proofs.scorers.query_scorer.Goals as goal

pub returns-in_err-weight-clause-scoring : goal.returns-in_err-weight-clause-scoring
returns-in_err-weight-clause-scoring g c = scoring_if_enabled g.P.Bm25StatisticsProvider c.args.enable_scoring (g.Q.Query.query c.args.query.now)

pub returns-clause-scoring : goal.returns-clause-scoring
returns-clause-scoring g c = scoring_if_enabled g.P.Bm25StatisticsProvider c.args.enable_scoring (g.Q.Query.query c.args.query.now)
