-- What is left has its states.
use Rattle.cases_cursors.proofs.Playing.{played-dropped}
use Rattle.cases_cursors.proofs.window_changes.drop_below.Goals as goal

pub returns : goal.returns
returns g c =
    let e = c.drop_below.ensures in
    played-dropped g.C.ScoreCombiner.step g.C.ScoreCombiner.cleared c.args.window.now _ c.args.left c.args.doc c.requires e.documents e.state e.until e.combiner
