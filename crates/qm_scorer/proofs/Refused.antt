-- What a refusal is not.
use Rattle.std.proofs.Common.{◌≡◌, subst}
use Rattle.std.specs.Prelude.{IsErrOf, Result}
use Rattle.std.specs.Result.{IsErrAnd}
use Rattle.qm_schema.specs.declared.error.QueryError.{QueryError}
use Rattle.qm_schema.specs.declared.error.QueryError.TheVariants.{Memory, ScoreBound}

-- a refusal for want of memory is none for a bound on the score
pub not_bound : {R : Type 0} (r : Result R QueryError) → IsErrAnd r (λ y. y ≡ Memory) → IsErrOf r ScoreBound → ⊥
not_bound r memory bad = let same : ScoreBound ≡ Memory = subst (λ s. IsErrAnd s (λ y. y ≡ Memory)) bad memory in cc
