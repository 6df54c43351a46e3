-- It is as if a score of 0 were added.
use Rattle.std.proofs.Common.{◌≡◌, ◌-◌, arith, subst}
use Rattle.cases_cursors.specs.Played.{IsPlayed}
use Rattle.cases_cursors.proofs.Playing.{played-added}
use Rattle.cases_cursors.proofs.window_changes.mark.Goals as goal

pub returns-then-keeps_no_states : goal.returns-then-keeps_no_states
returns-then-keeps_no_states g c =
    let e = c.mark.ensures.added 0 in
    let same : c.args.left - 0 ≡ c.args.left = omega arith in
    subst (IsPlayed g.C.ScoreCombiner.step g.C.ScoreCombiner.cleared c.mark.new.self) same
    (played-added g.C.ScoreCombiner.step g.C.ScoreCombiner.cleared c.args.window.now c.mark.new.self c.args.left c.args.doc 0 c.requires
    (omega arith) e.state e.others e.until e.combiner)
