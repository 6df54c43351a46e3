-- No sum of scores is above the greatest score.
use Rattle.std.proofs.Common.{◌+◌, ◌∷◌}
use Rattle.qm_term.proofs.SharedRuns.{bounded_greatest}
use Rattle.qm_term.proofs.wand.conjunction.stretch_at.Goals as goal

pub returns-then-pause-gt0-clause-bounded : goal.returns-then-pause-gt0-clause-bounded
returns-then-pause-gt0-clause-bounded g c = bounded_greatest c.args.doc (c.args.doc + 1) (c.args.leader.now ∷ c.args.others.now)
