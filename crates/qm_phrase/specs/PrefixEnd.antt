-- Where the texts that begin with a prefix end, in the order of bytes.
use Rattle.std.specs.Prelude.{◌≡◌, ℕ, ◌<◌, ◌↔◌, List, All, Option, None, Some, length, take}
use Rattle.std.specs.Ordering.{nat_cmp}
use Rattle.std.specs.Cmp.Lexicographic.{slice_cmp}
use Rattle.std.specs.declared.cmp.Ordering.TheVariants.{Less}
use Rattle.std.specs.Global.{Vec}

-- a text of bytes
abbrev pub AreBytes : List ℕ → Type 0
AreBytes text = All (λ byte. byte < 256) text

-- a text stands before another in the order of bytes, of which a prefix comes before what it begins
abbrev pub IsBefore : List ℕ → List ℕ → Type 0
IsBefore text other = slice_cmp nat_cmp text other ≡ Less

-- a text begins with a prefix
abbrev pub BeginsWith : List ℕ → List ℕ → Type 0
BeginsWith prefix text = take (length prefix) text ≡ prefix

-- A text at or past the prefix begins with it exactly where it stands before the end, or always where
-- there is none.
abbrev pub IsPrefixEnd : List ℕ → Option (Vec ℕ) → Type 0
IsPrefixEnd prefix None = (text : List ℕ) → AreBytes text → ¬ IsBefore text prefix → BeginsWith prefix text
IsPrefixEnd prefix (Some end) = (text : List ℕ) → AreBytes text → ¬ IsBefore text prefix → (BeginsWith prefix text ↔ IsBefore text end.items)
