use Rattle.qm_postings.proofs.inverted_index.place_of.guessed_place.Given as goal

-- nothing is known of the slots before
abbrev pub invariant-loop-guess : goal.invariant-loop-guess
invariant-loop-guess l = Unit {0}
