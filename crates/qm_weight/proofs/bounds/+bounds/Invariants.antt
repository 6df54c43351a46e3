-- The clauses so far fit, and those of them that may match have this bound together.
use Rattle.std.proofs.Common.{take}
use Rattle.qm_weight.specs.Weights.{clauses_from}
use Rattle.qm_weight.proofs.FittingBounds.{AreBound}
use Rattle.qm_weight.proofs.bounds.+bounds.Given as goal

abbrev pub invariant-bound_of_boolean-loop-occur : goal.invariant-bound_of_boolean-loop-occur
invariant-bound_of_boolean-loop-occur l = AreBound (clauses_from (take l.occur-index l.occur-items)) l.boost l.sum
