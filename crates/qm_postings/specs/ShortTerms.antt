-- Short terms that were given numbers: field, head and length tell each from all others.
use Rattle.std.specs.Prelude.{◌≡◌, ℕ, ◌≤◌, List, All, Some, length, slice_get}
use Rattle.qm_schema.specs.Term.{TermKey}
use Rattle.qm_postings.specs.TermHead.{IsHeadOf}
use Rattle.qm_postings.specs.declared.segment_builder.short_terms.ShortTerm.{ShortTerm}

-- A slot has this term: one of at most eight bytes, with that field, that head and that length.
pub record IsOf (term : TermKey) (slot : ShortTerm) : Type 0 where
  pub field : term.field ≡ slot.field
  pub head : IsHeadOf term.bytes slot.head
  pub len : length term.bytes ≡ slot.len
  pub short : slot.len ≤ 8

-- the number in a slot is that of the term that it has, if it has one
abbrev pub IsNumbered : List TermKey → ShortTerm → Type 0
IsNumbered names slot = (term : TermKey) → IsOf term slot → slice_get names slot.number ≡ Some term

-- so in each of some slots
abbrev pub AreNumbersOf : List TermKey → List ShortTerm → Type 0
AreNumbersOf names slots = All (IsNumbered names) slots

-- a number is that of a term, by what stands in some slots
abbrev pub IsNumberOf : TermKey → List ShortTerm → ℕ → Type 0
IsNumberOf term slots number = (names : List TermKey) → AreNumbersOf names slots → slice_get names number ≡ Some term

-- what stands in the slots stays true, where a term has this number
abbrev pub KeepsNumber : TermKey → ℕ → List ShortTerm → List ShortTerm → Type 0
KeepsNumber term number old new = (names : List TermKey) → AreNumbersOf names old → slice_get names number ≡ Some term → AreNumbersOf names new
