-- The terms of a row are those of its list; the calls for one clause, and then those for the others.
use Rattle.std.proofs.Common.{◌≡◌, ◌<◌, get_or, length, subst, rules, ◌∙◌, ap, sym}
use Rattle.qm_query.specs.declared.any_query.AnyQuery as q
use Rattle.qm_query.specs.Query.{boolean_of, disjunction_max_of, query_of}
use Rattle.qm_query.specs.QueryTerms.{MayVisitTerms, VisitsTerms, terms_of_query}
use Rattle.qm_query.proofs.Rows.{row_disjuncts-items, row_subqueries-items}
use Rattle.qm_query.proofs.VisitSteps.{clauses_left-more, disjuncts_left-more, here_allowed, rest_allowed, rest_called}
use Rattle.qm_query.proofs.+visits.Goals as goal

pub any_query::AnyQuery::visit_terms-visit_terms-requires :
    goal.any_query::AnyQuery::visit_terms-visit_terms-requires
any_query::AnyQuery::visit_terms-visit_terms-requires g t c κs within =
    let same : boolean_of c.in-Boolean.query ≡ query_of c.args.self.now = search (rules, q.the_lemmas, row_subqueries-items) in
    let allowed : MayVisitTerms g.F.FnMut c.args.visitor.now (terms_of_query (boolean_of c.in-Boolean.query)) =
    subst (λ x. MayVisitTerms g.F.FnMut c.args.visitor.now (terms_of_query x)) (sym same) c.requires.allowed in
    (search (rules, q.the_lemmas), (search rules, allowed))

pub any_query::AnyQuery::visit_terms-returns-in-Boolean :
    goal.any_query::AnyQuery::visit_terms-returns-in-Boolean
any_query::AnyQuery::visit_terms-returns-in-Boolean g t c =
    let same : boolean_of c.in-Boolean.query ≡ query_of c.args.self.now = search (rules, q.the_lemmas, row_subqueries-items) in
    record { calls = subst (λ x. VisitsTerms g.F.FnMut c.args.visitor.now (terms_of_query x) c.visit_terms.new.visitor) same c.visit_terms.ensures.calls }

pub any_query::AnyQuery::visit_terms-visit_terms-requires-in-DisjunctionMax :
    goal.any_query::AnyQuery::visit_terms-visit_terms-requires-in-DisjunctionMax
any_query::AnyQuery::visit_terms-visit_terms-requires-in-DisjunctionMax g t c κs within =
    let same : disjunction_max_of c.in-DisjunctionMax.query ≡ query_of c.args.self.now = search (rules, q.the_lemmas, row_disjuncts-items) in
    let allowed : MayVisitTerms g.F.FnMut c.args.visitor.now (terms_of_query (disjunction_max_of c.in-DisjunctionMax.query)) =
    subst (λ x. MayVisitTerms g.F.FnMut c.args.visitor.now (terms_of_query x)) (sym same) c.requires.allowed in
    (search (rules, q.the_lemmas), (search rules, allowed))

pub any_query::AnyQuery::visit_terms-returns-in-DisjunctionMax :
    goal.any_query::AnyQuery::visit_terms-returns-in-DisjunctionMax
any_query::AnyQuery::visit_terms-returns-in-DisjunctionMax g t c =
    let same : disjunction_max_of c.in-DisjunctionMax.query ≡ query_of c.args.self.now = search (rules, q.the_lemmas, row_disjuncts-items) in
    record {
      calls = subst (λ x. VisitsTerms g.F.FnMut c.args.visitor.now (terms_of_query x) c.visit_terms-in-DisjunctionMax.new.visitor)
          same c.visit_terms-in-DisjunctionMax.ensures.calls;
    }

pub boolean_query::BooleanQuery::visit_terms-visit_clause-requires :
    goal.boolean_query::BooleanQuery::visit_terms-visit_clause-requires
boolean_query::BooleanQuery::visit_terms-visit_clause-requires g t c κs within =
    let clauses = c.args.self.now.subqueries.items in
    let is = c.clause-item.is ∙ ap (λ xs. get_or xs c.loop-clause.clause-index c.clause-item.result) c.deref-clause-items.ensures.value in
    let below = subst (λ xs. c.loop-clause.clause-index < length xs) c.deref-clause-items.ensures.value c.loop-clause-test.true in
    let left = clauses_left-more clauses c.loop-clause.clause-index c.clause-item.result is below in
    let allowed = here_allowed g.F.FnMut _ _ _ left c.loop-clause.visitor c.loop-clause.invariant.allowed in
    (search (rules, q.the_lemmas), (search rules, allowed))

pub boolean_query::BooleanQuery::visit_terms-loop-clause-preserved :
    goal.boolean_query::BooleanQuery::visit_terms-loop-clause-preserved
boolean_query::BooleanQuery::visit_terms-loop-clause-preserved g t c =
    let clauses = c.args.self.now.subqueries.items in
    let is = c.clause-item.is ∙ ap (λ xs. get_or xs c.loop-clause.clause-index c.clause-item.result) c.deref-clause-items.ensures.value in
    let below = subst (λ xs. c.loop-clause.clause-index < length xs) c.deref-clause-items.ensures.value c.loop-clause-test.true in
    let left = clauses_left-more clauses c.loop-clause.clause-index c.clause-item.result is below in
    record {
      allowed = rest_allowed g.F.FnMut _ _ _ left c.loop-clause.visitor c.visit_clause.new.visitor c.visit_clause.ensures.calls c.loop-clause.invariant.allowed;
      calls = λ last others. c.loop-clause.invariant.calls last
          (rest_called g.F.FnMut _ _ _ left c.loop-clause.visitor c.visit_clause.new.visitor c.visit_clause.ensures.calls last others);
    }

pub disjunction_max_query::DisjunctionMaxQuery::visit_terms-visit_terms-requires :
    goal.disjunction_max_query::DisjunctionMaxQuery::visit_terms-visit_terms-requires
disjunction_max_query::DisjunctionMaxQuery::visit_terms-visit_terms-requires g t c κs within =
    let disjuncts = c.args.self.now.disjuncts.items in
    let is = c.query-item.is ∙ ap (λ xs. get_or xs c.loop-query.query-index c.query-item.result) c.deref-query-items.ensures.value in
    let below = subst (λ xs. c.loop-query.query-index < length xs) c.deref-query-items.ensures.value c.loop-query-test.true in
    let left = disjuncts_left-more disjuncts c.loop-query.query-index c.query-item.result is below in
    let here = here_allowed g.F.FnMut _ _ _ left c.loop-query.visitor c.loop-query.invariant.allowed in
    let allowed : MayVisitTerms g.F.FnMut c.loop-query.visitor (terms_of_query (query_of c.deref.result.now)) =
    subst (λ x. MayVisitTerms g.F.FnMut c.loop-query.visitor (terms_of_query (query_of x))) (sym c.deref.ensures) here in
    (search (rules, q.the_lemmas), (search rules, allowed))

pub disjunction_max_query::DisjunctionMaxQuery::visit_terms-loop-query-preserved :
    goal.disjunction_max_query::DisjunctionMaxQuery::visit_terms-loop-query-preserved
disjunction_max_query::DisjunctionMaxQuery::visit_terms-loop-query-preserved g t c =
    let disjuncts = c.args.self.now.disjuncts.items in
    let is = c.query-item.is ∙ ap (λ xs. get_or xs c.loop-query.query-index c.query-item.result) c.deref-query-items.ensures.value in
    let below = subst (λ xs. c.loop-query.query-index < length xs) c.deref-query-items.ensures.value c.loop-query-test.true in
    let left = disjuncts_left-more disjuncts c.loop-query.query-index c.query-item.result is below in
    let made = subst
    (λ x. VisitsTerms g.F.FnMut c.loop-query.visitor (terms_of_query (query_of x)) c.visit_terms.new.visitor) c.deref.ensures c.visit_terms.ensures.calls in
    record {
      allowed = rest_allowed g.F.FnMut _ _ _ left c.loop-query.visitor c.visit_terms.new.visitor made c.loop-query.invariant.allowed;
      calls =
          λ last others. c.loop-query.invariant.calls last (rest_called g.F.FnMut _ _ _ left c.loop-query.visitor c.visit_terms.new.visitor made last others);
    }
