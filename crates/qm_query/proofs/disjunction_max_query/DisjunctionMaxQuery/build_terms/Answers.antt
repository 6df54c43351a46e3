-- The weight of disjuncts that are terms stands for the tree of the disjuncts.
use Rattle.std.proofs.Common.{rules, ◌≡◌, ◌<◌, ◌≤◌, ◌∙◌, ap, get_or, length, subst, sym}
use Rattle.std.proofs.lemmas.Result.{IfOk-weaker}
use Rattle.qm_weight.specs.Tree.{boolean as boolean_node}
use Rattle.qm_weight.specs.Weights.{clause_occur, combiner_of}
use Rattle.qm_query.specs.EnableScoring.{is_enabled, schema_of}
use Rattle.qm_query.specs.Query.{query_of}
use Rattle.qm_query.specs.SharedTerms.{shared_clause_tree}
use Rattle.qm_query.specs.WeightRefusals.{IsWeightRefusal}
use Rattle.qm_query.specs.declared.any_query.AnyQuery.TheVariants.{Term}
use Rattle.qm_query.proofs.ClauseWeights.{are_disjuncts_served-whole, disjunct_trees-whole, disjunct_weight_refused}
use Rattle.qm_query.proofs.disjunction_max_query.DisjunctionMaxQuery.build_terms.Goals as goal

pub returns-in_err-term_clause-clause-refused : goal.returns-in_err-term_clause-clause-refused
returns-in_err-term_clause-clause-refused g c =
    let S = g.P.Bm25StatisticsProvider in
    let under = c.args.enable_scoring in
    let error = c.in_err-term_clause.field-0.0 in
    let item = c.query-item.result in
    let here : item.value ≡ Term c.in-Term.term = sym c.deref.ensures ∙ c.in-Term.is in
    let refused = disjunct_weight_refused S under c.args.self.now.disjuncts.items
    c.loop-query.query-index c.args.self.now.combiner.tie_breaker item error
    (c.query-item.is ∙ ap (λ xs. get_or xs c.loop-query.query-index item) c.deref-query-items.ensures.value)
    (subst (λ xs. c.loop-query.query-index < length xs) c.deref-query-items.ensures.value c.loop-query-test.true) c.loop-query.invariant.served
    (subst (λ x. IsWeightRefusal S under (query_of x) error) (sym here) c.in_err-term_clause.ensures.refused) in
    search rules

pub returns-clause-tree : goal.returns-clause-tree
returns-clause-tree g c =
    let S = g.P.Bm25StatisticsProvider in
    let under = c.args.enable_scoring in
    let q = c.args.self.now in
    let clauses =
    disjunct_trees-whole S under clause_occur (shared_clause_tree S under) c.loop-query.clauses.items q.disjuncts.items c.loop-query.query-index
    (subst (λ xs. length xs ≤ c.loop-query.query-index) c.deref-query-items.ensures.value c.loop-query-test.false) c.loop-query.invariant.trees in
    IfOk-weaker c.boxed_terms.result _ _
    (λ b is. is ∙ (λ i. boolean_node (is_enabled under) 1 (combiner_of (c.from.ensures i)) (clauses i))) c.boxed_terms.ensures.tree

pub returns-clause-served : goal.returns-clause-served
returns-clause-served g c =
    let served = are_disjuncts_served-whole (schema_of c.args.enable_scoring) c.args.self.now.disjuncts.items c.loop-query.query-index
    (subst (λ xs. length xs ≤ c.loop-query.query-index) c.deref-query-items.ensures.value c.loop-query-test.false) c.loop-query.invariant.served in
    IfOk-weaker c.boxed_terms.result _ _ (λ _ _. served) c.boxed_terms.ensures.tree
