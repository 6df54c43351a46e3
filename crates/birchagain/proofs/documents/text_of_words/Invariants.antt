-- The text has the words before this one.
use Rattle.std.proofs.Common.{◌≡◌, ◌++◌, drop, map, string_bytes}
use Rattle.birchagain.specs.Adding.{spaced}
use Rattle.birchagain.proofs.documents.text_of_words.Given as goal

abbrev pub invariant-loop-word : goal.invariant-loop-word
invariant-loop-word l = string_bytes l.text ++ spaced (drop l.word-index (map (λ w. w.now) l.words)) ≡ spaced (map (λ w. w.now) l.words)
