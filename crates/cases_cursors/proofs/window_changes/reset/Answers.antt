-- Nothing is left in it.
use Rattle.cases_cursors.proofs.Playing.{played-reset}
use Rattle.cases_cursors.proofs.window_changes.reset.Goals as goal

pub returns : goal.returns
returns g c =
    played-reset g.C.ScoreCombiner.step g.C.ScoreCombiner.cleared c.args.window.now _ c.args.left c.requires
    c.reset.ensures.combiner c.reset.ensures.documents c.reset.ensures.until
