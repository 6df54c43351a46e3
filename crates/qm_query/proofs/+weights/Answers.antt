-- A query whose clauses stand in a row has the tree, and the refusals, of its list of clauses.
use Rattle.std.proofs.Common.{◌≡◌, true, ◌<◌, ◌≤◌, get_or, length, IfErr, IfOk, IsTrue, subst, rules, ◌∙◌, ap}
use Rattle.qm_query.specs.declared.any_query.AnyQuery as q
use Rattle.qm_weight.specs.declared.any_weight.AnyWeight as w
use Rattle.qm_weight.specs.Tree.{boolean as boolean_node}
use Rattle.qm_weight.specs.Weights.{boolean_tree, combiner_of, tree_of, weight_occur, weight_tree}
use Rattle.qm_query.specs.EnableScoring.{schema_of}
use Rattle.qm_query.specs.Fields.{is_served}
use Rattle.qm_query.specs.Query.{boolean_of, disjunction_max_of, query_of}
use Rattle.qm_query.specs.QueryTree.{query_tree}
use Rattle.qm_query.specs.WeightRefusals.{IsWeightRefusal}
use Rattle.qm_query.proofs.ClauseWeights.{are_clauses_served-step, are_clauses_served-whole, are_disjuncts_served-whole, clause_trees-step, clause_trees-whole}
use Rattle.qm_query.proofs.ClauseWeights.{clause_weight_refused, disjunct_trees-whole, disjunct_weight_refused, weight_clause}
use Rattle.qm_query.proofs.Rows.{row_disjuncts-items, row_subqueries-items}
use Rattle.std.proofs.lemmas.Result.{IfOk-weaker}
use Rattle.qm_weight.specs.declared.any_weight.AnyWeight.TheVariants.{Boolean}
use Rattle.qm_weight.proofs.ClauseSteps.{row_clauses-items}
use Rattle.qm_query.proofs.+weights.Goals as goal

pub any_query::AnyQuery::build_weight-returns-in-Boolean-clause-tree :
    goal.any_query::AnyQuery::build_weight-returns-in-Boolean-clause-tree
any_query::AnyQuery::build_weight-returns-in-Boolean-clause-tree g t c =
    let same : boolean_of c.in-Boolean.query ≡ query_of c.args.self.now = search (rules, q.the_lemmas, row_subqueries-items) in
    subst (λ x. IfOk c.build_weight.result (λ weight. tree_of weight.value ≡ query_tree g.P.Bm25StatisticsProvider c.args.enable_scoring x))
    same c.build_weight.ensures.tree

pub any_query::AnyQuery::build_weight-returns-in-Boolean-clause-served :
    goal.any_query::AnyQuery::build_weight-returns-in-Boolean-clause-served
any_query::AnyQuery::build_weight-returns-in-Boolean-clause-served g t c =
    let same : boolean_of c.in-Boolean.query ≡ query_of c.args.self.now = search (rules, q.the_lemmas, row_subqueries-items) in
    subst (λ x. IfOk c.build_weight.result (λ _. IsTrue (is_served (schema_of c.args.enable_scoring) x))) same c.build_weight.ensures.served

pub any_query::AnyQuery::build_weight-returns-in-Boolean-clause-refused :
    goal.any_query::AnyQuery::build_weight-returns-in-Boolean-clause-refused
any_query::AnyQuery::build_weight-returns-in-Boolean-clause-refused g t c =
    let same : boolean_of c.in-Boolean.query ≡ query_of c.args.self.now = search (rules, q.the_lemmas, row_subqueries-items) in
    subst (λ x. IfErr c.build_weight.result (IsWeightRefusal g.P.Bm25StatisticsProvider c.args.enable_scoring x)) same c.build_weight.ensures.refused

pub any_query::AnyQuery::build_weight-returns-in-DisjunctionMax-clause-tree :
    goal.any_query::AnyQuery::build_weight-returns-in-DisjunctionMax-clause-tree
any_query::AnyQuery::build_weight-returns-in-DisjunctionMax-clause-tree g t c =
    let same : disjunction_max_of c.in-DisjunctionMax.query ≡ query_of c.args.self.now = search (rules, q.the_lemmas, row_disjuncts-items) in
    subst (λ x. IfOk c.build_weight-in-DisjunctionMax.result (λ weight. tree_of weight.value ≡ query_tree g.P.Bm25StatisticsProvider c.args.enable_scoring x))
    same c.build_weight-in-DisjunctionMax.ensures.tree

pub any_query::AnyQuery::build_weight-returns-in-DisjunctionMax-clause-served :
    goal.any_query::AnyQuery::build_weight-returns-in-DisjunctionMax-clause-served
any_query::AnyQuery::build_weight-returns-in-DisjunctionMax-clause-served g t c =
    let same : disjunction_max_of c.in-DisjunctionMax.query ≡ query_of c.args.self.now = search (rules, q.the_lemmas, row_disjuncts-items) in
    subst (λ x. IfOk c.build_weight-in-DisjunctionMax.result (λ _. IsTrue (is_served (schema_of c.args.enable_scoring) x)))
    same c.build_weight-in-DisjunctionMax.ensures.served

pub any_query::AnyQuery::build_weight-returns-in-DisjunctionMax-clause-refused :
    goal.any_query::AnyQuery::build_weight-returns-in-DisjunctionMax-clause-refused
any_query::AnyQuery::build_weight-returns-in-DisjunctionMax-clause-refused g t c =
    let same : disjunction_max_of c.in-DisjunctionMax.query ≡ query_of c.args.self.now = search (rules, q.the_lemmas, row_disjuncts-items) in
    subst (λ x. IfErr c.build_weight-in-DisjunctionMax.result (IsWeightRefusal g.P.Bm25StatisticsProvider c.args.enable_scoring x))
    same c.build_weight-in-DisjunctionMax.ensures.refused

pub boolean_query::BooleanQuery::build_weight-returns-in_err-weight-clause-refused :
    goal.boolean_query::BooleanQuery::build_weight-returns-in_err-weight-clause-refused
boolean_query::BooleanQuery::build_weight-returns-in_err-weight-clause-refused g t c =
    let here = clause_weight_refused g.P.Bm25StatisticsProvider c.args.enable_scoring c.args.self.now.subqueries.items
    c.loop-occur.occur-index c.args.self.now.minimum_number_should_match c.loop-occur-item.result c.in_err-weight.field-0.0
    (c.loop-occur-item.is ∙ ap (λ xs. get_or xs c.loop-occur.occur-index c.loop-occur-item.result) c.deref-occur-items.ensures.value)
    (subst (λ xs. c.loop-occur.occur-index < length xs) c.deref-occur-items.ensures.value c.loop-occur-test.true) c.loop-occur.invariant.served
    (subst (λ x. IsWeightRefusal g.P.Bm25StatisticsProvider c.args.enable_scoring (query_of x) c.in_err-weight.field-0.0)
    c.deref.ensures c.in_err-weight.ensures.refused) in
    search rules

pub boolean_query::BooleanQuery::build_weight-loop-occur-preserved :
    goal.boolean_query::BooleanQuery::build_weight-loop-occur-preserved
boolean_query::BooleanQuery::build_weight-loop-occur-preserved g t c = record {
  trees = clause_trees-step g.P.Bm25StatisticsProvider c.args.enable_scoring weight_clause
      c.loop-occur.weights.items _ (c.loop-occur-item.result.0, c.in_ok-weight.weight) c.args.self.now.subqueries.items
      c.loop-occur.occur-index c.loop-occur-item.result c.in_ok-push.ensures.items (c.loop-occur-item.is ∙ ap
      (λ xs. get_or xs c.loop-occur.occur-index c.loop-occur-item.result) c.deref-occur-items.ensures.value) (subst (λ xs. c.loop-occur.occur-index < length xs)
      c.deref-occur-items.ensures.value c.loop-occur-test.true) c.loop-occur.invariant.trees (λ i. (
        c.loop-occur-item.result.0,
        (c.in_ok-weight.ensures.tree ∙ ap (λ x. query_tree g.P.Bm25StatisticsProvider c.args.enable_scoring (query_of x)) c.deref.ensures) i,
      ));
  served = are_clauses_served-step (schema_of c.args.enable_scoring) c.args.self.now.subqueries.items c.loop-occur.occur-index c.loop-occur-item.result
      (c.loop-occur-item.is ∙ ap (λ xs. get_or xs c.loop-occur.occur-index c.loop-occur-item.result) c.deref-occur-items.ensures.value)
      (subst (λ xs. c.loop-occur.occur-index < length xs) c.deref-occur-items.ensures.value c.loop-occur-test.true) c.loop-occur.invariant.served
      (subst (λ x. is_served (schema_of c.args.enable_scoring) (query_of x) ≡ true) c.deref.ensures c.in_ok-weight.ensures.served);
}

pub boolean_query::BooleanQuery::build_weight-returns-clause-tree :
    goal.boolean_query::BooleanQuery::build_weight-returns-clause-tree
boolean_query::BooleanQuery::build_weight-returns-clause-tree g t c =
    let weight = c.with_minimum_number_should_match-weight.result in
    let made : tree_of (Boolean weight) ≡ boolean_tree weight = search (rules, w.the_lemmas, row_clauses-items) in
    let clauses =
    clause_trees-whole g.P.Bm25StatisticsProvider c.args.enable_scoring weight_occur weight_tree
    c.loop-occur.weights.items c.args.self.now.subqueries.items c.loop-occur.occur-index (subst (λ xs. length xs ≤ c.loop-occur.occur-index)
    c.deref-occur-items.ensures.value c.loop-occur-test.false) c.loop-occur.invariant.trees in
    let tree = made ∙ c.with_minimum_number_should_match-weight.ensures
    ∙ (λ i. boolean_node (c.is_scoring_enabled.ensures i) c.args.self.now.minimum_number_should_match (combiner_of (c.from.ensures i)) (clauses i)) in
    IfOk-weaker c.boxed_boolean.result (λ b. b.value ≡ Boolean weight) _ (λ b is. ap tree_of is ∙ tree) c.boxed_boolean.ensures.value

pub boolean_query::BooleanQuery::build_weight-returns-clause-served :
    goal.boolean_query::BooleanQuery::build_weight-returns-clause-served
boolean_query::BooleanQuery::build_weight-returns-clause-served g t c =
    let served = are_clauses_served-whole (schema_of c.args.enable_scoring) c.args.self.now.subqueries.items c.loop-occur.occur-index
    (subst (λ xs. length xs ≤ c.loop-occur.occur-index) c.deref-occur-items.ensures.value c.loop-occur-test.false) c.loop-occur.invariant.served in
    IfOk-weaker c.boxed_boolean.result (λ b. b.value ≡ Boolean c.with_minimum_number_should_match-weight.result) _ (λ _ _. served) c.boxed_boolean.ensures.value

pub disjunction_max_query::DisjunctionMaxQuery::build_weight-returns-in_err-weight-clause-refused :
    goal.disjunction_max_query::DisjunctionMaxQuery::build_weight-returns-in_err-weight-clause-refused
disjunction_max_query::DisjunctionMaxQuery::build_weight-returns-in_err-weight-clause-refused g t c =
    let here = disjunct_weight_refused g.P.Bm25StatisticsProvider c.args.enable_scoring c.args.self.now.disjuncts.items
    c.loop-query.query-index c.args.self.now.combiner.tie_breaker c.query-item.result c.in_err-weight.field-0.0
    (c.query-item.is ∙ ap (λ xs. get_or xs c.loop-query.query-index c.query-item.result) c.deref-query-items.ensures.value)
    (subst (λ xs. c.loop-query.query-index < length xs) c.deref-query-items.ensures.value c.loop-query-test.true) c.loop-query.invariant.served
    (subst (λ x. IsWeightRefusal g.P.Bm25StatisticsProvider c.args.enable_scoring (query_of x) c.in_err-weight.field-0.0)
    c.deref.ensures c.in_err-weight.ensures.refused) in
    search rules

pub disjunction_max_query::DisjunctionMaxQuery::build_weight-returns-clause-tree :
    goal.disjunction_max_query::DisjunctionMaxQuery::build_weight-returns-clause-tree
disjunction_max_query::DisjunctionMaxQuery::build_weight-returns-clause-tree g t c =
    let weight = c.new-weight.result in
    let made : tree_of (Boolean weight) ≡ boolean_tree weight = search (rules, w.the_lemmas, row_clauses-items) in
    let clauses = disjunct_trees-whole g.P.Bm25StatisticsProvider c.args.enable_scoring
    weight_occur weight_tree c.loop-query.weights.items c.args.self.now.disjuncts.items c.loop-query.query-index
    (subst (λ xs. length xs ≤ c.loop-query.query-index) c.deref-query-items.ensures.value c.loop-query-test.false) c.loop-query.invariant.trees in
    let tree = made ∙ c.new-weight.ensures ∙ (λ i. boolean_node (c.is_scoring_enabled-scoring.ensures i) 1 (combiner_of (c.from.ensures i)) (clauses i)) in
    IfOk-weaker c.boxed_boolean.result (λ b. b.value ≡ Boolean weight) _ (λ b is. ap tree_of is ∙ tree) c.boxed_boolean.ensures.value

pub disjunction_max_query::DisjunctionMaxQuery::build_weight-returns-clause-served :
    goal.disjunction_max_query::DisjunctionMaxQuery::build_weight-returns-clause-served
disjunction_max_query::DisjunctionMaxQuery::build_weight-returns-clause-served g t c =
    let served = are_disjuncts_served-whole (schema_of c.args.enable_scoring) c.args.self.now.disjuncts.items c.loop-query.query-index
    (subst (λ xs. length xs ≤ c.loop-query.query-index) c.deref-query-items.ensures.value c.loop-query-test.false) c.loop-query.invariant.served in
    IfOk-weaker c.boxed_boolean.result (λ b. b.value ≡ Boolean c.new-weight.result) _ (λ _ _. served) c.boxed_boolean.ensures.value
