use Rattle.std.proofs.Common.{length}
use Rattle.qm_phrase.proofs.suffixes.+count_suffixes.Given as goal

abbrev pub decreases-count_suffixes : goal.decreases-count_suffixes
decreases-count_suffixes g l = length l.row.now
