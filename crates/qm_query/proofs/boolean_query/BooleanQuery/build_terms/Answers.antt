-- The weight of clauses that are terms stands for the tree of the clauses.
use Rattle.std.proofs.Common.{rules, ◌≡◌, ◌<◌, ◌≤◌, ◌∙◌, ap, get_or, length, subst, sym}
use Rattle.std.proofs.lemmas.Result.{IfOk-weaker}
use Rattle.qm_weight.specs.Tree.{boolean as boolean_node}
use Rattle.qm_weight.specs.Weights.{clause_occur, combiner_of}
use Rattle.qm_query.specs.EnableScoring.{is_enabled, schema_of}
use Rattle.qm_query.specs.Query.{query_of}
use Rattle.qm_query.specs.SharedTerms.{shared_clause_tree}
use Rattle.qm_query.specs.WeightRefusals.{IsWeightRefusal}
use Rattle.qm_query.specs.declared.any_query.AnyQuery.TheVariants.{Term}
use Rattle.qm_query.proofs.ClauseWeights.{are_clauses_served-whole, clause_trees-whole, clause_weight_refused}
use Rattle.qm_query.proofs.boolean_query.BooleanQuery.build_terms.Goals as goal

pub returns-in_err-term_clause-clause-refused : goal.returns-in_err-term_clause-clause-refused
returns-in_err-term_clause-clause-refused g c =
    let S = g.P.Bm25StatisticsProvider in
    let under = c.args.enable_scoring in
    let error = c.in_err-term_clause.field-0.0 in
    let item = c.loop-occur-item.result in
    let here : item.1.value ≡ Term c.in-Term.term = sym c.deref.ensures ∙ c.in-Term.is in
    let refused = clause_weight_refused S under c.args.self.now.subqueries.items
    c.loop-occur.occur-index c.args.self.now.minimum_number_should_match item error
    (c.loop-occur-item.is ∙ ap (λ xs. get_or xs c.loop-occur.occur-index item) c.deref-occur-items.ensures.value)
    (subst (λ xs. c.loop-occur.occur-index < length xs) c.deref-occur-items.ensures.value c.loop-occur-test.true) c.loop-occur.invariant.served
    (subst (λ x. IsWeightRefusal S under (query_of x) error) (sym here) c.in_err-term_clause.ensures.refused) in
    search rules

pub returns-clause-tree : goal.returns-clause-tree
returns-clause-tree g c =
    let S = g.P.Bm25StatisticsProvider in
    let under = c.args.enable_scoring in
    let q = c.args.self.now in
    let clauses =
    clause_trees-whole S under clause_occur (shared_clause_tree S under) c.loop-occur.clauses.items q.subqueries.items c.loop-occur.occur-index
    (subst (λ xs. length xs ≤ c.loop-occur.occur-index) c.deref-occur-items.ensures.value c.loop-occur-test.false) c.loop-occur.invariant.trees in
    let asked = q.minimum_number_should_match in
    IfOk-weaker c.boxed_terms.result _ _
    (λ b is. is ∙ (λ i. boolean_node (is_enabled under) asked (combiner_of (c.from-combiner.ensures i)) (clauses i))) c.boxed_terms.ensures.tree

pub returns-clause-served : goal.returns-clause-served
returns-clause-served g c =
    let served = are_clauses_served-whole (schema_of c.args.enable_scoring) c.args.self.now.subqueries.items c.loop-occur.occur-index
    (subst (λ xs. length xs ≤ c.loop-occur.occur-index) c.deref-occur-items.ensures.value c.loop-occur-test.false) c.loop-occur.invariant.served in
    IfOk-weaker c.boxed_terms.result _ _ (λ _ _. served) c.boxed_terms.ensures.tree
