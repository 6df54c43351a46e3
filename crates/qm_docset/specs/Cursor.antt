-- What `seek_danger` may answer.
use Rattle.std.specs.Prelude.{◌≡◌, ℕ, ◌<◌, ◌≤◌, List}
use Rattle.qm_docset.specs.Entry.{Entry, head_document}
use Rattle.qm_docset.specs.declared.numbers.TheConstants.{TERMINATED}
use Rattle.qm_docset.specs.declared.docset.SeekDangerResult.{SeekDangerResult}
use Rattle.qm_docset.specs.declared.docset.SeekDangerResult.TheVariants.{Found, SeekLowerBound}

-- the target is the first document that a seek left
pub record IsFound (target : ℕ) (es : List Entry) : Type 0 where
  pub below_end : target < TERMINATED
  pub here : head_document es ≡ target

-- no document that a seek left stands before the bound, and the target is behind it, so that it is not
-- there; where the target was TERMINATED the bound is
pub record IsLowerBound (target : ℕ) (es : List Entry) (bound : ℕ) : Type 0 where
  pub before_all : bound ≤ head_document es
  pub past : target < TERMINATED → target < bound
  pub at_end : target ≡ TERMINATED → bound ≡ TERMINATED

-- an answer after a seek that left these entries
abbrev pub IsSeekAnswer : ℕ → List Entry → SeekDangerResult → Type 0
IsSeekAnswer target es Found = IsFound target es
IsSeekAnswer target es (SeekLowerBound bound) = IsLowerBound target es bound

-- a fact that holds where the target was found
abbrev pub OnFound : SeekDangerResult → Type 0 → Type 0
OnFound Found P = P
OnFound (SeekLowerBound bound) P = Unit {0}
