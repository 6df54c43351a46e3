-- The words before this one are there.
use Rattle.std.proofs.Common.{◌≡◌, ◌++◌, map, take}
use Rattle.qm_script.specs.Spelled.{texts}
use Rattle.birchagain_queries.proofs.named_words.push_all.Given as goal

abbrev pub invariant-loop-word : goal.invariant-loop-word
invariant-loop-word l = map (λ w. w.now) l.words.items ≡ map (λ w. w.now) l.fn.words.items ++ texts (take l.word-index l.phrase)
