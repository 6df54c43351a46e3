-- What is left is less by the score.
use Rattle.std.proofs.Common.{◌≡◌, ◌-◌, ap, arith, nat_abs, subst, to_z, w64}
use Rattle.std.proofs.lemmas.Int.{to_z_pos}
use Rattle.cases_cursors.specs.Played.{IsPlayed}
use Rattle.cases_cursors.proofs.Playing.{played-added}
use Rattle.cases_cursors.proofs.window_changes.add.Goals as goal

pub returns-then-score-min : goal.returns-then-score-min
returns-then-score-min g c =
    let e = c.add.ensures in
    let is : nat_abs (to_z w64 c.args.score) ≡ c.args.score = ap nat_abs (to_z_pos w64 c.args.score (omega (arith, c.if-score-min.true, c.min.ensures))) in
    subst (λ n. IsPlayed g.C.ScoreCombiner.step g.C.ScoreCombiner.cleared c.add.new.self (c.args.left - n)) is
    (played-added g.C.ScoreCombiner.step g.C.ScoreCombiner.cleared c.args.window.now c.add.new.self c.args.left c.args.doc _ c.requires
    (omega (arith, is, c.if-score-min.true, c.min.ensures)) e.state e.others e.until e.combiner)
