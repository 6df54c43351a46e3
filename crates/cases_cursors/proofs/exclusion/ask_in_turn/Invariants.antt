use Rattle.cases_cursors.proofs.exclusion.ask_in_turn.Given as goal

abbrev pub invariant-loop-doc : goal.invariant-loop-doc
invariant-loop-doc g l = g.E.ExclusionSet.usable l.set
