-- Norms of one value do not fall.
use Rattle.qm_query.proofs.NoNorms.{no_norms_ascending}
use Rattle.qm_query.proofs.leaf_weight.shared_norms.Goals as goal

pub returns-in-Disabled-clause-ascending : goal.returns-in-Disabled-clause-ascending
returns-in-Disabled-clause-ascending g c = no_norms_ascending
