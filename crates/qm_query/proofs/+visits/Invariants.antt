-- The calls for the clauses, or the disjuncts, that are left are still to come.
use Rattle.qm_query.specs.Query.{boolean_of, disjunction_max_of}
use Rattle.qm_query.specs.QueryTerms.{MayVisitTerms, VisitsTerms, terms_of_query}
use Rattle.qm_query.proofs.VisitSteps.{clauses_left, disjuncts_left}
use Rattle.qm_query.proofs.+visits.Given as goal

abbrev pub invariant-boolean_query::BooleanQuery::visit_terms-loop-clause :
    goal.invariant-boolean_query::BooleanQuery::visit_terms-loop-clause
invariant-boolean_query::BooleanQuery::visit_terms-loop-clause g l = record {
  allowed : MayVisitTerms g.F.FnMut l.visitor (clauses_left l.self.subqueries.items l.clause-index);
  calls : (last : _) → VisitsTerms g.F.FnMut l.visitor (clauses_left l.self.subqueries.items l.clause-index) last →
      VisitsTerms g.F.FnMut l.fn.visitor (terms_of_query (boolean_of l.fn.self)) last;
}

abbrev pub invariant-disjunction_max_query::DisjunctionMaxQuery::visit_terms-loop-query :
    goal.invariant-disjunction_max_query::DisjunctionMaxQuery::visit_terms-loop-query
invariant-disjunction_max_query::DisjunctionMaxQuery::visit_terms-loop-query g l = record {
  allowed : MayVisitTerms g.F.FnMut l.visitor (disjuncts_left l.self.disjuncts.items l.query-index);
  calls : (last : _) → VisitsTerms g.F.FnMut l.visitor (disjuncts_left l.self.disjuncts.items l.query-index) last →
      VisitsTerms g.F.FnMut l.fn.visitor (terms_of_query (disjunction_max_of l.fn.self)) last;
}
