-- It begins with no document, and room for all scores.
use Rattle.std.proofs.Common.{arith}
use Rattle.cases_cursors.proofs.Playing.{played-none}
use Rattle.cases_cursors.proofs.window.changed.Goals as goal

pub loop-change-init : goal.loop-change-init
loop-change-init g c =
    played-none g.C.ScoreCombiner.step g.C.ScoreCombiner.cleared c.args.window _ (omega arith) c.requires.start c.requires.none c.requires.until
