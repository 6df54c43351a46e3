-- A run looks at documents and scores alone.
use Rattle.std.proofs.Common.{subst}
use Rattle.qm_weight.specs.LeafScorers.{IsLeafOf}
use Rattle.qm_weight.proofs.Leaves.{CallsEach-bare, MayCallEach-bare}
use Rattle.qm_weight.proofs.shared_runs.run_leaf.Given as given
use Rattle.qm_weight.proofs.shared_runs.run_leaf.Goals as goal

pub for_each_scorer-requires-clause-allowed : goal.for_each_scorer-requires-clause-allowed
for_each_scorer-requires-clause-allowed g c =
    let own = subst (IsLeafOf g.L.DocSet (g.W.StandsFor.tree c.args.weight.now) 1 c.args.reader.now.segment) c.in-Some.is c.requires.leaf in
    MayCallEach-bare (given.F-step g) (given.F-pre g) c.args.callback.now _ (c.requires.allowed _ own.list)

pub returns-in-Some : goal.returns-in-Some
returns-in-Some g c =
    let own = subst (IsLeafOf g.L.DocSet (g.W.StandsFor.tree c.args.weight.now) 1 c.args.reader.now.segment) c.in-Some.is c.requires.leaf in
    record { calls = (_, own.list, CallsEach-bare (given.F-step g) c.args.callback.now _ c.for_each_scorer.new.callback c.for_each_scorer.ensures.calls) }
