-- The calls with the terms that are left are still to come.
use Rattle.qm_query.specs.QueryTerms.{MayVisitTerms, VisitsTerms, terms_of_phrase}
use Rattle.qm_query.proofs.VisitSteps.{phrase_left}
use Rattle.qm_query.proofs.visits.visit_phrase.Given as goal

abbrev pub invariant-loop-term : goal.invariant-loop-term
invariant-loop-term g l = record {
  allowed : MayVisitTerms g.F.FnMut l.visitor (phrase_left l.terms l.term-index);
  calls : (last : _) → VisitsTerms g.F.FnMut l.visitor (phrase_left l.terms l.term-index) last →
      VisitsTerms g.F.FnMut l.fn.visitor (terms_of_phrase l.fn.terms) last;
}
