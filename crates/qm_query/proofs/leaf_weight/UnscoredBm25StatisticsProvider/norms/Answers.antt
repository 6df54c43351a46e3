-- Norms of one value do not fall.
use Rattle.qm_query.proofs.NoNorms.{no_norms_ascending}
use Rattle.qm_query.proofs.leaf_weight.UnscoredBm25StatisticsProvider.norms.Goals as goal

pub returns-clause-ascending : goal.returns-clause-ascending
returns-clause-ascending c = no_norms_ascending
