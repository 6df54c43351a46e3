use Rattle.std.proofs.Common.{◌+◌, ◌-◌, ◌≤◌, length}
use Rattle.qm_folder.proofs.ComparedFiles.{AreListed}
use Rattle.qm_folder.proofs.comparing.changes.Given as goal

abbrev pub invariant-loop-at : goal.invariant-loop-at
invariant-loop-at l = record { at : l.at ≤ length l.kept; place : l.place ≤ length l.found; listed : AreListed l.kept l.found l.at l.place l.gone.items l.to_read.items }

abbrev pub decreases-loop-at : goal.decreases-loop-at
decreases-loop-at l = (length l.kept - l.at) + (length l.found - l.place)
