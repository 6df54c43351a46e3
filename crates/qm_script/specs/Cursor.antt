-- The words of a line, from one on.
use Rattle.std.specs.Prelude.{ℕ, List, drop}
use Rattle.qm_script.specs.Script.{line_words}
use Rattle.qm_script.specs.declared.words.Words.{Words}

-- the words that are still to be read
abbrev pub words_left : Words → List (List ℕ)
words_left w = line_words (drop w.at w.line.now)
