-- What is there, and what the clauses or disjuncts that are left ask for, is all that is to be there.
use Rattle.std.proofs.Common.{◌≡◌, ◌++◌, drop, map}
use Rattle.qm_index.specs.Parts.{segments_of}
use Rattle.qm_script.specs.AskedTerms.{clauses_terms, queries_terms}
use Rattle.qm_script.specs.Script.{as_clauses, queries_of}
use Rattle.qm_script.specs.Spelled.{spelled_clause, query_of}
use Rattle.qm_script.proofs.asked_terms.+push_asked.Given as goal

abbrev pub decreases-push_asked : goal.decreases-push_asked
decreases-push_asked l = goal.size-push_asked l

abbrev pub invariant-loop-inner : goal.invariant-loop-inner
invariant-loop-inner l =
    l.terms.items ++ clauses_terms (segments_of l.segments) (as_clauses (drop l.inner-index (map spelled_clause l.inner-items)))
    ≡ l.fn.terms.items ++ clauses_terms (segments_of l.segments) (as_clauses (map spelled_clause l.inner-items))

abbrev pub invariant-loop-inner-2 : goal.invariant-loop-inner-2
invariant-loop-inner-2 l =
    l.terms.items ++ queries_terms (segments_of l.segments) (queries_of (drop l.inner-index (map query_of l.inner-items)))
    ≡ l.fn.terms.items ++ queries_terms (segments_of l.segments) (queries_of (map query_of l.inner-items))
