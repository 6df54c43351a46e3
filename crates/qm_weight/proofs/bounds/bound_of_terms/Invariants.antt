-- The clauses so far fit, and those of them that may match have this bound together.
use Rattle.std.proofs.Common.{take}
use Rattle.qm_weight.specs.Weights.{term_clauses}
use Rattle.qm_weight.proofs.FittingBounds.{AreBound}
use Rattle.qm_weight.proofs.bounds.bound_of_terms.Given as goal

abbrev pub invariant-loop-clause : goal.invariant-loop-clause
invariant-loop-clause l =
    AreBound (term_clauses l.weight.rule.scoring_enabled l.weight.norms (take l.clause-index l.weight.clauses.items)) l.boost l.sum
