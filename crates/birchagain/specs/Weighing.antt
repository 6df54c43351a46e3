-- Why a word may not be given its weight.
use Rattle.std.specs.Prelude.{◌≡◌, ◌≤ℤ◌, ℕ, ℤ, List, IsUtf8, pos}
use Rattle.qm_schema.specs.declared.error.QueryError.TheVariants.{Memory}
use Rattle.birchagain.specs.declared.refusal.Refusal.{Refusal}
use Rattle.birchagain.specs.declared.refusal.Refusal.TheVariants.{NegativeWeight, NotText, Query}

-- the weight is below 0, the word is not UTF-8, or there is no memory
abbrev pub IsWeighRefusal : List ℕ → ℤ → Refusal → Type 0
IsWeighRefusal word weight (Query error) = error ≡ Memory
IsWeighRefusal word weight NotText = ¬ IsUtf8 word
IsWeighRefusal word weight NegativeWeight = ¬ (pos 0 ≤ℤ weight)
IsWeighRefusal word weight refusal = ⊥
