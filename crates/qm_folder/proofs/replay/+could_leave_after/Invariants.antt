use Rattle.std.proofs.Common.{length}
use Rattle.qm_folder.proofs.replay.+could_leave_after.Given as goal

abbrev pub decreases-could_leave_after : goal.decreases-could_leave_after
decreases-could_leave_after l = length l.calls.now
