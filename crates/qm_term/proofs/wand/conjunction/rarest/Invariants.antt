use Rattle.std.proofs.Common.{◌<◌, length}
use Rattle.qm_term.proofs.wand.conjunction.rarest.Given as goal

abbrev pub invariant-loop-other : goal.invariant-loop-other
invariant-loop-other g l = l.place < length l.scorers
