use Rattle.std.proofs.Common.{take}
use Rattle.qm_query.specs.SharedTerms.{AreTermClauses}
use Rattle.qm_query.proofs.boolean_query.are_terms.Given as goal

abbrev pub invariant-loop-query : goal.invariant-loop-query
invariant-loop-query l = AreTermClauses (take l.query-index l.subqueries)
