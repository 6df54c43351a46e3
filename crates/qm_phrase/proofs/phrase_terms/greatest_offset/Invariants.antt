use Rattle.std.proofs.Common.{◌≡◌, fold, map, max, take}
use Rattle.qm_phrase.proofs.phrase_terms.greatest_offset.Given as goal

abbrev pub invariant-loop-term : goal.invariant-loop-term
invariant-loop-term l = l.greatest ≡ fold max 0 (take l.term-index (map (λ pair. pair.0) l.terms))
