-- The first place is passed.
use Rattle.qm_phrase.proofs.StartSteps.{past-first}
use Rattle.qm_phrase.proofs.row.Row.pass.Goals as goal

pub returns-then-first-place-clause-left : goal.returns-then-first-place-clause-left
returns-then-first-place-clause-left c =
    let row = c.args.self.now in
    past-first c.args.place row.shift row.passed c.args.positions.now c.requires (cc (c.first.ensures, c.if-first-place.true))
