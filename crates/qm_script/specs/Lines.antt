-- What is still to be read of an input, where the bytes that it gives are known.
use Rattle.std.specs.Prelude.{◌≡◌, ℕ, Bool, true, false, List, [], ◌∷◌, ◌++◌, ◌==◌, Option, Some, slice_range, if◌then◌else◌}
use Rattle.std.specs.List.{list_any}
use Rattle.std.specs.Io.KnownBytes.{prepend_known}
use Rattle.qm_script.specs.declared.lines.Lines.{Lines}

-- the bytes that the input has given and no line has taken
abbrev pub unread : Lines → List ℕ
unread lines = slice_range lines.chunk lines.start lines.end

-- all bytes that are still to come as lines, where the input's own are known: none after its end
abbrev pub pending : Lines → Option (List ℕ) → Option (List ℕ)
pending lines known = if lines.ended then Some [] else prepend_known (unread lines) known

-- whether a byte 10 is among these
abbrev pub has_break : List ℕ → Bool
has_break bytes = list_any (λ b. b == 10) bytes

-- A line grows by the unread bytes up to the first byte 10, which goes with them; or, where there is
-- none, by all of them.
abbrev pub TakesPiece : Bool → List ℕ → List ℕ → List ℕ → List ℕ → Type 0
TakesPiece true before after old new = (piece : List ℕ) × (before ≡ piece ++ (10 ∷ after)) × (has_break piece ≡ false) × (new ≡ old ++ piece)
TakesPiece false before after old new = (has_break before ≡ false) × (after ≡ []) × (new ≡ old ++ before)
