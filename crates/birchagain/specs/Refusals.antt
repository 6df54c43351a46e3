-- Why calls may be refused.
use Rattle.std.specs.Prelude.{◌≡◌, ◌≤◌, ◌⊎◌, ℕ, length}
use Rattle.qm_index.specs.Indexed.{Indexed, all_segments}
use Rattle.qm_index.specs.Numbers.{count_of}
use Rattle.qm_schema.specs.declared.error.QueryError.TheVariants.{Memory, TooManySegments}
use Rattle.birchagain.specs.declared.refusal.Refusal.{Refusal}
use Rattle.birchagain.specs.declared.refusal.Refusal.TheVariants.{NoDocument, Query}

-- there is no memory
abbrev pub IsMemory : Refusal → Type 0
IsMemory (Query error) = error ≡ Memory
IsMemory refusal = ⊥

-- there is no document of that number, or no memory
abbrev pub IsDeleteRefusal : ℕ → Indexed → Refusal → Type 0
IsDeleteRefusal number s (Query error) = error ≡ Memory
IsDeleteRefusal number s NoDocument = count_of (all_segments s) ≤ number
IsDeleteRefusal number s refusal = ⊥

-- there are as many segments as may be searched, or there is no memory
abbrev pub IsEndRefusal : Indexed → Refusal → Type 0
IsEndRefusal s (Query error) = (error ≡ Memory) ⊎ ((error ≡ TooManySegments) × (length (all_segments s) ≡ 4294967295))
IsEndRefusal s refusal = ⊥
