use Rattle.std.proofs.Common.{◌≡◌, take}
use Rattle.qm_script.specs.Lines.{has_break}
use Rattle.qm_script.proofs.lines.is_broken.Given as goal

abbrev pub invariant-loop-b : goal.invariant-loop-b
invariant-loop-b l = l.broken ≡ has_break (take l.b-index l.bytes)
