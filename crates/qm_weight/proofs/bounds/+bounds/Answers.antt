-- The bound of each node, by what stands inside.
use Rattle.std.proofs.Common.{rules, ◌≡◌, ◌+◌, ap, arith, subst, sym, take}
use Rattle.qm_weight.specs.ClauseScorers.{bound_added}
use Rattle.qm_weight.specs.Tree.{Fits, boolean, bound}
use Rattle.qm_weight.specs.Weights.{boolean_tree, clauses_from, combiner_of, tree_of, weight_occur, weight_tree}
use Rattle.qm_weight.specs.declared.any_weight.AnyWeight as w
use Rattle.qm_weight.proofs.ClauseSteps.{row_clauses-items}
use Rattle.qm_weight.proofs.FittingBounds.{AreBound, IsBoundOf, bound-boost, bound-step, fits-bound, past_score, unfit-clause, unfit-sum}
use Rattle.qm_weight.proofs.bounds.+bounds.Goals as goal

pub bound_of_any-returns-in-Boolean : goal.bound_of_any-returns-in-Boolean
bound_of_any-returns-in-Boolean t c =
    let same : boolean_tree c.in-Boolean.node ≡ tree_of c.args.weight.now = search (rules, w.the_lemmas, row_clauses-items) in
    subst (λ tree. IsBoundOf tree c.args.boost c.bound_of_boolean.result) same c.bound_of_boolean.ensures

pub bound_of_boost-returns : goal.bound_of_boost-returns
bound_of_boost-returns t c =
    let node = c.args.weight.now in
    let inside = subst (λ x. IsBoundOf (tree_of x) c.in_ok-product.product c.bound_of_any.result) c.deref.ensures c.bound_of_any.ensures in
    bound-boost node.boost (tree_of node.weight.value) c.args.boost c.bound_of_any.result c.in_ok-product.ensures.0
    (subst (λ n. IsBoundOf (tree_of node.weight.value) n c.bound_of_any.result) c.in_ok-product.ensures.1 inside)

pub bound_of_boolean-returns-in_err-bound : goal.bound_of_boolean-returns-in_err-bound
bound_of_boolean-returns-in_err-bound t c =
    let wt = c.args.weight.now in
    let b = c.args.boost in
    let item = c.loop-occur-item.result in
    let unfit = subst (λ x. ¬ Fits (tree_of x) b) c.deref.ensures c.in_err-bound.ensures in
    let all = unfit-clause weight_occur weight_tree wt.rule.scoring_enabled wt.rule.minimum_number_should_match (combiner_of wt.rule.score_combiner)
    c.as_slice-occur-items.result.now c.loop-occur.occur-index item b c.loop-occur-item.is c.loop-occur-test.true unfit in
    let none = subst (λ ws. ¬ Fits (boolean wt.rule.scoring_enabled wt.rule.minimum_number_should_match (combiner_of wt.rule.score_combiner) (clauses_from ws)) b)
    c.as_slice-occur-items.ensures.value all in
    search (rules, none)

pub bound_of_boolean-sum_with-requires-clause-bound : goal.bound_of_boolean-sum_with-requires-clause-bound
bound_of_boolean-sum_with-requires-clause-bound t c =
    omega (arith, fits-bound (tree_of c.deref.result.now) c.args.boost c.in_ok-bound.ensures.0, c.in_ok-bound.ensures.1)

pub bound_of_boolean-returns-in_err-sum : goal.bound_of_boolean-returns-in_err-sum
bound_of_boolean-returns-in_err-sum t c =
    let wt = c.args.weight.now in
    let b = c.args.boost in
    let item = c.loop-occur-item.result in
    let one = subst (λ x. c.in_ok-bound.bound ≡ bound (tree_of x) b) c.deref.ensures c.in_ok-bound.ensures.1 in
    let all = unfit-sum weight_occur weight_tree wt.rule.scoring_enabled wt.rule.minimum_number_should_match (combiner_of wt.rule.score_combiner)
    c.as_slice-occur-items.result.now c.loop-occur.occur-index item b c.loop-occur.sum (bound_added item.0 c.in_ok-bound.bound) c.loop-occur-item.is
    c.loop-occur-test.true c.loop-occur.invariant (ap (bound_added item.0) one) (past_score c.in_err-sum.ensures) in
    let none = subst (λ ws. ¬ Fits (boolean wt.rule.scoring_enabled wt.rule.minimum_number_should_match (combiner_of wt.rule.score_combiner) (clauses_from ws)) b)
    c.as_slice-occur-items.ensures.value all in
    search (rules, none)

pub bound_of_boolean-loop-occur-preserved : goal.bound_of_boolean-loop-occur-preserved
bound_of_boolean-loop-occur-preserved t c =
    let b = c.args.boost in
    let item = c.loop-occur-item.result in
    let fits = subst (λ x. Fits (tree_of x) b) c.deref.ensures c.in_ok-bound.ensures.0 in
    let one = subst (λ x. c.in_ok-bound.bound ≡ bound (tree_of x) b) c.deref.ensures c.in_ok-bound.ensures.1 in
    subst (AreBound (clauses_from (take (c.loop-occur.occur-index + 1) c.as_slice-occur-items.result.now)) b) (sym c.in_ok-sum.ensures.1)
    (bound-step weight_occur weight_tree c.as_slice-occur-items.result.now c.loop-occur.occur-index item b c.loop-occur.sum
    (bound_added item.0 c.in_ok-bound.bound) c.loop-occur-item.is
    c.loop-occur-test.true c.loop-occur.invariant fits (ap (bound_added item.0) one) c.in_ok-sum.ensures.0)
