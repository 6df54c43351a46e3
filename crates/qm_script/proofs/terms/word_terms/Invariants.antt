use Rattle.std.proofs.Common.{◌≡◌, map, take}
use Rattle.birchagain.specs.Body.{body_term}
use Rattle.qm_script.specs.Spelled.{texts}
use Rattle.qm_script.proofs.terms.word_terms.Given as goal

abbrev pub invariant-loop-word : goal.invariant-loop-word
invariant-loop-word l = l.terms.items ≡ map body_term (texts (take l.word-index l.words))
