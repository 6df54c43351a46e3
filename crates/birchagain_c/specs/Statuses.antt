-- The status of a call.
use Rattle.std.specs.Prelude.{◌≡◌, ◌⊎◌, ℕ, Option, None, Some, Result, Ok, Err}
use Rattle.birchagain.specs.Statuses.{status_of}
use Rattle.birchagain.specs.declared.refusal.Refusal.{Refusal}
use Rattle.birchagain_queries.specs.Statuses as query
use Rattle.birchagain_queries.specs.declared.refusal.QueryRefusal.{QueryRefusal}
use Rattle.qm_index.specs.declared.index.Index.{Index}

-- 0 where it is done, else that of its refusal
abbrev pub status_after : {X : Type 0} → Result X Refusal → ℕ
status_after (Ok x) = 0
status_after (Err refusal) = status_of refusal

-- the same of a call that takes a query
abbrev pub status_after_query : {X : Type 0} → Result X QueryRefusal → ℕ
status_after_query (Ok x) = 0
status_after_query (Err refusal) = query.status_of refusal

-- A status of a call that takes the text of a query, and no index: 0, or that of a refusal that is due.
abbrev pub IsTextStatus : (QueryRefusal → Type 0) → ℕ → Type 0
IsTextStatus P status = (status ≡ 0) ⊎ ((refusal : QueryRefusal) × (status ≡ query.status_of refusal) × P refusal)

-- the same of one that takes an index too: 64 where there is none
abbrev pub IsQueryStatus : (QueryRefusal → Type 0) → Option Index → ℕ → Type 0
IsQueryStatus P None status = status ≡ 64
IsQueryStatus P (Some i) status = IsTextStatus P status
