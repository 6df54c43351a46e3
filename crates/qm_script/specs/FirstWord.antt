-- The first word of a line, from a place on.
use Rattle.std.specs.Prelude.{◌≡◌, ℕ, ◌-◌, ◌<◌, List, ◌∷◌, drop, take}
use Rattle.std.specs.Str.{IsCharBoundary}
use Rattle.qm_script.specs.Script.{line_words}

-- it stands between these two, where the text may be cut, and the words behind it are those of the rest
pub record IsFirstWord (line : List ℕ) (from start end : ℕ) : Type 0 where
  pub order : start < end
  pub cut_before : IsCharBoundary line start
  pub cut_behind : IsCharBoundary line end
  pub words : line_words (drop from line) ≡ take (end - start) (drop start line) ∷ line_words (drop end line)
