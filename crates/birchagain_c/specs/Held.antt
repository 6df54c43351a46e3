-- What calls say of the index in a handle, before and after them.
use Rattle.std.specs.Prelude.{◌≡◌, ◌⊎◌, ℕ}
use Rattle.std.specs.declared.option.Option.{Option}
use Rattle.std.specs.declared.option.Option.TheVariants.{None, Some}
use Rattle.qm_index.specs.Indexed.{Indexed, empty_index, indexed, statistics}
use Rattle.qm_index.specs.declared.index.Index.{Index}
use Rattle.qm_postings.specs.Statistics.{Searched}
use Rattle.birchagain.specs.Body.{body_fields}
use Rattle.birchagain.specs.Start.{start_statistics}
use Rattle.birchagain.specs.Statuses.{status_of}
use Rattle.birchagain.specs.declared.refusal.Refusal.{Refusal}

-- what the index holds, and what it says of words, if there is one
abbrev pub content : Option Index → Option (Indexed × Searched)
content None = None
content (Some i) = Some (indexed i, statistics i)

-- an index without documents
abbrev pub IsNew : Index → Type 0
IsNew i = (indexed i ≡ empty_index body_fields 128) × (statistics i ≡ start_statistics)

-- there is an index, of which this holds
abbrev pub Holds : (Index → Type 0) → Option Index → Type 0
Holds P None = ⊥
Holds P (Some i) = P i

-- there was an index and there is one, and of these two this holds
abbrev pub Becomes : (Index → Index → Type 0) → Option Index → Option Index → Type 0
Becomes P None after = ⊥
Becomes P (Some before) None = ⊥
Becomes P (Some before) (Some after) = P before after

-- A status of a call: 64 where there is no index, else 0 or that of a refusal that is due.
abbrev pub IsStatus : (Index → Refusal → Type 0) → Option Index → ℕ → Type 0
IsStatus P None status = status ≡ 64
IsStatus P (Some i) status = (status ≡ 0) ⊎ ((refusal : Refusal) × (status ≡ status_of refusal) × P i refusal)
