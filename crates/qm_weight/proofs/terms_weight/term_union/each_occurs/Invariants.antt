use Rattle.std.proofs.Common.{take}
use Rattle.qm_weight.specs.TermUnions.{AreAll}
use Rattle.qm_weight.proofs.terms_weight.term_union.each_occurs.Given as goal

abbrev pub invariant-loop-clause : goal.invariant-loop-clause
invariant-loop-clause l = AreAll l.occur (take l.clause-index l.clauses)
