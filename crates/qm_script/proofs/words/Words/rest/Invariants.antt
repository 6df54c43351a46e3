use Rattle.std.proofs.Common.{◌≡◌, ◌++◌, length, string_bytes}
use Rattle.birchagain.specs.Adding.{spaced}
use Rattle.qm_script.specs.Cursor.{words_left}
use Rattle.qm_script.proofs.words.Words.rest.Given as goal

abbrev pub invariant-loop-word : goal.invariant-loop-word
invariant-loop-word l = string_bytes l.text ++ spaced (words_left l.self) ≡ spaced (words_left l.initial.self)

abbrev pub decreases-loop-word : goal.decreases-loop-word
decreases-loop-word l = length (words_left l.self)
