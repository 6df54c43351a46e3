use Rattle.std.proofs.Common.{length}
use Rattle.qm_folder.proofs.replay.+seen_after.Given as goal

abbrev pub decreases-seen_after : goal.decreases-seen_after
decreases-seen_after l = length l.calls.now
