-- The bound of a weight of terms, by those of its clauses.
use Rattle.std.proofs.Common.{rules, ◌+◌, ◌<◌, ap, get_or, length, subst, sym, take, ◌∙◌}
use Rattle.qm_weight.specs.ClauseScorers.{bound_added}
use Rattle.qm_weight.specs.Weights.{clause_occur, clause_tree, combiner_of, term_clauses}
use Rattle.qm_weight.proofs.FittingBounds.{AreBound, bound-step, past_score, unfit-clause, unfit-sum}
use Rattle.qm_weight.proofs.bounds.bound_of_terms.Goals as goal

pub returns-in_err-bound : goal.returns-in_err-bound
returns-in_err-bound c =
    let w = c.args.weight.now in
    let i = c.loop-clause.clause-index in
    let item = c.clause-item.result in
    let items = c.deref-clause-items.ensures.value in
    let none = unfit-clause clause_occur (clause_tree w.rule.scoring_enabled w.norms) w.rule.scoring_enabled w.rule.minimum_number_should_match
    (combiner_of w.rule.score_combiner) w.clauses.items i item c.args.boost (c.clause-item.is ∙ ap (λ xs. get_or xs i item) items)
    (subst (λ xs. i < length xs) items c.loop-clause-test.true) c.in_err-bound.ensures in
    search (rules, none)

pub returns-in_err-sum : goal.returns-in_err-sum
returns-in_err-sum c =
    let w = c.args.weight.now in
    let i = c.loop-clause.clause-index in
    let item = c.clause-item.result in
    let items = c.deref-clause-items.ensures.value in
    let none = unfit-sum clause_occur (clause_tree w.rule.scoring_enabled w.norms) w.rule.scoring_enabled w.rule.minimum_number_should_match
    (combiner_of w.rule.score_combiner) w.clauses.items i item c.args.boost c.loop-clause.sum (bound_added item.occur c.in_ok-bound.bound)
    (c.clause-item.is ∙ ap (λ xs. get_or xs i item) items) (subst (λ xs. i < length xs) items c.loop-clause-test.true)
    c.loop-clause.invariant (ap (bound_added item.occur) c.in_ok-bound.ensures.1) (past_score c.in_err-sum.ensures) in
    search (rules, none)

pub loop-clause-preserved : goal.loop-clause-preserved
loop-clause-preserved c =
    let w = c.args.weight.now in
    let i = c.loop-clause.clause-index in
    let item = c.clause-item.result in
    let items = c.deref-clause-items.ensures.value in
    subst (AreBound (term_clauses w.rule.scoring_enabled w.norms (take (i + 1) w.clauses.items)) c.args.boost) (sym c.in_ok-sum.ensures.1)
    (bound-step clause_occur (clause_tree w.rule.scoring_enabled w.norms) w.clauses.items i item c.args.boost c.loop-clause.sum
    (bound_added item.occur c.in_ok-bound.bound) (c.clause-item.is ∙ ap (λ xs. get_or xs i item) items)
    (subst (λ xs. i < length xs) items c.loop-clause-test.true) c.loop-clause.invariant c.in_ok-bound.ensures.0
    (ap (bound_added item.occur) c.in_ok-bound.ensures.1) c.in_ok-sum.ensures.0)
