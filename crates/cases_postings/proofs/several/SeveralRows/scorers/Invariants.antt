use Rattle.std.proofs.Common.{All}
use Rattle.qm_term.specs.TermScorer.{IsTermScorer}
use Rattle.cases_postings.proofs.several.SeveralRows.scorers.Given as goal

abbrev pub invariant-loop-part : goal.invariant-loop-part
invariant-loop-part l = All IsTermScorer l.row.items
