use Rattle.std.proofs.Common.{[], ap, refl, ◌∙◌}
use Rattle.std.proofs.lemmas.Result.{IfOk-weaker}
use Rattle.qm_postings.specs.Restriction.{restricted}
use Rattle.qm_postings.specs.Segment.{without}
use Rattle.qm_weight.specs.LookingFacts.{matching-documents}
use Rattle.qm_weight.specs.Tree.{matching}
use Rattle.qm_weight.proofs.RestrictedTrees.{matching-restricted}
use Rattle.example_callers.specs.Found.{is_wanted}
use Rattle.example_callers.proofs.row_callers.join_matches_of_terms.Goals as goal

pub returns : goal.returns
returns g c =
    let tree = g.W.Weight.tree c.args.weight.now in
    let segment = c.args.reader.now.segment in
    let wanted = is_wanted c.args.terms.now in
    IfOk-weaker c.join_matches.result _ _ (λ v is.
    is ∙ ap (matching tree) c.in_ok-some.ensures.restricted
    ∙ matching-documents (restricted wanted (without [] segment)) (restricted wanted segment) refl refl tree
    ∙ matching-restricted wanted segment tree c.requires) c.join_matches.ensures
