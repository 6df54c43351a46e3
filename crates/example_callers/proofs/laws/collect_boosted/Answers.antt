-- The second run lists the tree under the boost.
use Rattle.std.proofs.Common.{ap, ◌≡◌, nat_abs, subst, sym, w64, ◌∙◌}
use mir.ValLaws.{to_z-of_z}
use Rattle.std.specs.Prelude.{IsTrue, map}
use Rattle.qm_weight.specs.CallerFacts.{pairs-boost}
use Rattle.qm_weight.specs.Callers.{multiplied, pairs}
use Rattle.qm_weight.specs.Tree.{boost, is_scoring, list, matching}
use Rattle.qm_weight.specs.Weights.{tree_of}
use Rattle.example_callers.proofs.laws.collect_boosted.Goals as goal

pub returns-clause-documents : goal.returns-clause-documents
returns-clause-documents c =
    let segment = c.args.reader.now.segment in
    let first = subst (λ w. map (λ p. p.0) c.in_ok-found.found.items ≡ matching (tree_of w) segment) c.deref.ensures c.in_ok-found.ensures.documents in
    first ∙ sym (c.in_ok-collect_matches.ensures.documents ∙ ap (λ t. matching t segment) c.new-boosted.ensures)

pub returns-clause-scores : goal.returns-clause-scores
returns-clause-scores c = λ exact on.
    let segment = c.args.reader.now.segment in
    let tree = tree_of c.args.weight.value in
    let k = nat_abs c.args.boost in
    let is = c.new-boosted.ensures in
    let first = subst (λ w. IsTrue (is_scoring (tree_of w)) → c.in_ok-found.found.items ≡ pairs (list (tree_of w) 1 segment))
    c.deref.ensures c.in_ok-found.ensures.scores on in
    let second = c.in_ok-collect_matches.ensures.scores (subst (λ t. IsTrue (is_scoring t)) (sym is) on) in
    let same = ap (λ z. pairs (list (boost (nat_abs z) tree) 1 segment)) (to_z-of_z w64 c.args.boost c.ranges.boost) in
    second ∙ ap (λ t. pairs (list t 1 segment)) is ∙ same ∙ pairs-boost tree exact 1 k segment ∙ sym (ap (multiplied k) first)
