-- The only scorer there is, or the group of several.
use Rattle.std.proofs.Common.{inr}
use Rattle.qm_scorer.specs.Built.{IsAtLeastOf}
use Rattle.qm_scorer.specs.contracts.any_scorer.AnyScorerDocSet.TheImpl.{ghosts}
use Rattle.qm_weight.specs.ClauseScorers.{IsEnoughOf}
use Rattle.qm_weight.proofs.Leaves.{if_ok}
use Rattle.qm_weight.proofs.boolean_weight.joined.enough_of.Goals as goal

pub returns-clause-enough : goal.returns-clause-enough
returns-clause-enough g c =
    let D = ghosts g.row.S g.S.Scorer g.S.Scorer-dict g.S.DocSet g.S.DocSet-dict g.S.Destruct-dict in
    let combiner = c.combiner_handed_on-combiner.result in
    if_ok (IsAtLeastOf D c.args.minimum combiner c.args.should.items) (IsEnoughOf D c.args.rule c.args.minimum c.args.should.items)
    (λ s made. inr (record { combiner = combiner; same = c.combiner_handed_on-combiner.ensures.on; lists = made })) _ c.at_least.ensures.lists
