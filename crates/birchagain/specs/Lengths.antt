-- Norms of length ids, and why they may be refused.
use Rattle.std.specs.Prelude.{◌≡◌, ◌≢◌, ℕ, List, length}
use Rattle.std.specs.List.Sorted.{IsNonDecreasing}
use Rattle.qm_schema.specs.declared.error.QueryError.TheVariants.{BadNorms}
use Rattle.birchagain.specs.declared.refusal.Refusal.{Refusal}
use Rattle.birchagain.specs.declared.refusal.Refusal.TheVariants.{Query, UnevenRows}

-- there are not as many as length ids, or one is less than the one before it
abbrev pub IsNormsRefusal : List ℕ → Refusal → Type 0
IsNormsRefusal norms (Query error) = (error ≡ BadNorms) × ¬ IsNonDecreasing norms
IsNormsRefusal norms UnevenRows = length norms ≢ 256
IsNormsRefusal norms refusal = ⊥
