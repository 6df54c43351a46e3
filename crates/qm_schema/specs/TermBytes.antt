-- The bytes of a term's text, as they are kept.
use Rattle.std.specs.Prelude.{ℕ, ◌≤◌, List, take}
use Rattle.qm_schema.specs.declared.term.term_bytes.Text.{Text}
use Rattle.qm_schema.specs.declared.term.term_bytes.Text.TheVariants.{Short, Long}

-- the bytes of a text: as many of those that the term holds as it says, or all that are kept beside it
abbrev pub bytes_of : Text → List ℕ
bytes_of (Short len bytes) = take len bytes
bytes_of (Long bytes) = bytes.value.items

-- a short text says no more than there are
abbrev pub IsWithin : Text → Type 0
IsWithin (Short len bytes) = len ≤ 14
IsWithin (Long bytes) = Unit {0}
