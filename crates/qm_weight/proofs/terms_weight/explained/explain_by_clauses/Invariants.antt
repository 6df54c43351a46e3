-- Details change nothing of the explanation's own line.
use Rattle.qm_weight.proofs.ExplainedScores.{IsValued}
use Rattle.qm_weight.proofs.terms_weight.explained.explain_by_clauses.Given as goal

abbrev pub invariant-loop-clause : goal.invariant-loop-clause
invariant-loop-clause l = IsValued l.fn.score l.explanation
