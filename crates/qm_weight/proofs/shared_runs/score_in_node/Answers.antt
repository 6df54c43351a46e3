-- The scorer's list is the tree's.
use Rattle.qm_weight.specs.Explanations.{ExplainsListed, IsExplained, IsExplainRefusal, IsUnlistedRefusal}
use Rattle.qm_weight.proofs.Leaves.{if_err, if_ok}
use Rattle.qm_weight.proofs.Listings.{IsListOf-bare}
use Rattle.qm_weight.proofs.shared_runs.score_in_node.Goals as goal

pub returns-clause-score : goal.returns-clause-score
returns-clause-score g c =
    let tree = g.W.StandsFor.tree c.args.weight.now in
    let segment = c.args.reader.now.segment in
    let es = g.S.DocSet.entries c.args.scorer in
    let listed = IsListOf-bare tree c.args.boost segment es c.requires.scorer.list in
    if_ok (ExplainsListed es c.args.doc) (IsExplained tree c.args.boost segment c.args.doc)
    (λ v explains. explains tree c.args.boost segment listed) _ c.score_of.ensures.score

pub returns-clause-refused : goal.returns-clause-refused
returns-clause-refused g c =
    let tree = g.W.StandsFor.tree c.args.weight.now in
    let segment = c.args.reader.now.segment in
    let es = g.S.DocSet.entries c.args.scorer in
    let listed = IsListOf-bare tree c.args.boost segment es c.requires.scorer.list in
    if_err (IsUnlistedRefusal es c.args.doc) (IsExplainRefusal tree c.args.boost segment c.args.doc)
    (λ e refuses. refuses tree c.args.boost segment listed) _ c.score_of.ensures.refused
