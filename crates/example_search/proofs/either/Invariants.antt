-- What a loop keeps, the author says: each member taken so far is a scorer.
use Rattle.std.proofs.Common.{All}
use Rattle.qm_term.specs.TermScorer.{IsTermScorer}
use Rattle.example_search.proofs.either.Given as goal

abbrev pub invariant-loop-term : goal.invariant-loop-term
invariant-loop-term l = All IsTermScorer l.members.items
