-- What was built so far, and what is asked behind it.
use Rattle.std.proofs.Common.{◌≡◌, drop, map}
use Rattle.qm_query.specs.Query.{clause_of as built_clause, query_of as built_query}
use Rattle.qm_script.specs.Asked.{clauses_asked, disjuncts_asked}
use Rattle.qm_script.specs.Script.{as_clauses, queries_of}
use Rattle.qm_script.specs.Spelled.{spelled_clause, query_of}
use Rattle.qm_script.proofs.Building.{with_front}
use Rattle.qm_script.proofs.query_builder.+build_query.Given as goal

abbrev pub decreases-build_query : goal.decreases-build_query
decreases-build_query l = goal.size-build_query l

abbrev pub invariant-loop-occur : goal.invariant-loop-occur
invariant-loop-occur l = with_front (map built_clause l.built.items) (clauses_asked (as_clauses (drop l.occur-index (map spelled_clause l.occur-items))))
    ≡ clauses_asked (as_clauses (map spelled_clause l.occur-items))

abbrev pub invariant-loop-inner : goal.invariant-loop-inner
invariant-loop-inner l = with_front (map (λ b. built_query b.value) l.built.items)
    (disjuncts_asked (queries_of (drop l.inner-index (map query_of l.inner-items)))) ≡ disjuncts_asked (queries_of (map query_of l.inner-items))
