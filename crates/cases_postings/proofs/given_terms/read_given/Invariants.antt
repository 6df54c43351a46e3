use Rattle.std.proofs.Common.{All}
use Rattle.cases_postings.specs.GivenTerms.{IsGiven}
use Rattle.cases_postings.proofs.given_terms.read_given.Given as goal

abbrev pub invariant-loop-spelled : goal.invariant-loop-spelled
invariant-loop-spelled l = All IsGiven l.given.items
