-- The bytes of a term, and which term some bytes begin with: its field, how many bytes its text has, and these.
use Rattle.std.specs.Prelude.{ℕ, ◌<◌, ◌≤◌, ◌^◌, nat_le, if◌then◌else◌, List, ◌++◌, Option, None, Some, drop, length, take}
use Rattle.qm_schema.specs.Term.{TermKey}
use Rattle.qm_store.specs.Numbers.{number_at, spelled}
use Rattle.qm_store.specs.RowBytes.{followed_by}

-- a term that a program can have
pub record IsSomeTerm (t : TermKey) : Type 0 where
  pub field : t.field ≤ 4294967295
  pub bytes : length t.bytes < 128 ^ 9

-- its bytes
abbrev pub term_bytes : TermKey → List ℕ
term_bytes t = spelled t.field ++ (spelled (length t.bytes) ++ t.bytes)

-- the text of so many bytes that some bytes begin with, in a field, and the bytes behind it
abbrev pub text_at : ℕ → ℕ → List ℕ → Option (TermKey × List ℕ)
text_at field count bs =
    if nat_le count (length bs) then Some (record { field = field; bytes = take count bs }, drop count bs) else None

-- the term that some bytes begin with, and the bytes behind it
abbrev pub term_at : List ℕ → Option (TermKey × List ℕ)
term_at bs =
    followed_by (number_at 8 bs) (λ field rest. if nat_le field 4294967295 then followed_by (number_at 8 rest) (text_at field) else None)
