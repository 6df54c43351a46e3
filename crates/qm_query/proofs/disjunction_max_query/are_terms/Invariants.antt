use Rattle.std.proofs.Common.{take}
use Rattle.qm_query.specs.SharedTerms.{AreTermQueries}
use Rattle.qm_query.proofs.disjunction_max_query.are_terms.Given as goal

abbrev pub invariant-loop-query : goal.invariant-loop-query
invariant-loop-query l = AreTermQueries (take l.query-index l.disjuncts)
