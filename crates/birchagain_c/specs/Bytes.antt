-- An index in a handle as bytes, and what calls of it are refused for.
use Rattle.std.specs.Prelude.{◌≡◌, ◌⊎◌, ℕ, List, Option, None, Some, Result, Ok, Err}
use Rattle.qm_index.specs.Indexed.{indexed}
use Rattle.qm_index.specs.declared.index.Index.{Index}
use Rattle.birchagain_bytes.specs.Bytes.{AreBytesOf}
use Rattle.birchagain_bytes.specs.Fills.{Fills}
use Rattle.birchagain_bytes.specs.Statuses.{status_of}
use Rattle.birchagain_bytes.specs.declared.refusal.BytesRefusal.{BytesRefusal}

-- 0 where it is done, else that of its refusal
abbrev pub status_after : {X : Type 0} → Result X BytesRefusal → ℕ
status_after (Ok x) = 0
status_after (Err refusal) = status_of refusal

-- A status of a call: 64 where there is no index, else 0 or that of a refusal that is due.
abbrev pub IsBytesStatus : (Index → BytesRefusal → Type 0) → Option Index → ℕ → Type 0
IsBytesStatus P None status = status ≡ 64
IsBytesStatus P (Some i) status = (status ≡ 0) ⊎ ((refusal : BytesRefusal) × (status ≡ status_of refusal) × P i refusal)

-- so many bytes at the front of an array are those of an index, of which postings are cut into blocks as in this library
abbrev pub IsWritten : List ℕ → List ℕ → List ℕ → ℕ → Index → Type 0
IsWritten known before after size i = (indexed i).current.block_len ≡ 128 → Fills (AreBytesOf known i) before after size
