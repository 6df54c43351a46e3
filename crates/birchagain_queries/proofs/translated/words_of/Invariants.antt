-- The words of the pieces before this one are there.
use Rattle.std.proofs.Common.{◌≡◌, ◌==◌, filter, length, map, not}
use Rattle.qm_script.specs.Spelled.{texts}
use Rattle.birchagain_queries.proofs.translated.words_of.Given as goal

abbrev pub invariant-loop-piece : goal.invariant-loop-piece
invariant-loop-piece l = texts l.words.items ≡ filter (λ w. not (length w == 0)) (map (λ p. p.now) l.yielded)
