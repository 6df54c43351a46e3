use Rattle.std.proofs.Common.{subst, sym, ◌∙◌}
use Rattle.qm_weight.specs.LeafScorers.{IsLeafOf}
use Rattle.qm_weight.proofs.shared_runs.count_leaf.Goals as goal
use Rattle.qm_scorer.specs.BareFacts.{documents-bare}

pub returns-in-Some : goal.returns-in-Some
returns-in-Some g c =
    let tree = g.W.StandsFor.tree c.args.weight.now in
    let own = subst (IsLeafOf g.L.DocSet tree 1 c.args.reader.now.segment) c.in-Some.is c.requires.leaf in
    c.count_alive.ensures tree (sym (documents-bare _) ∙ own.list.documents)
