use Rattle.std.proofs.Common.{length}
use Rattle.qm_folder.proofs.replay.+is_written_after.Given as goal

abbrev pub decreases-is_written_after : goal.decreases-is_written_after
decreases-is_written_after l = length l.calls.now
