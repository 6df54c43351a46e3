use Rattle.std.proofs.Common.{take}
use Rattle.qm_scorer.specs.contracts.any_scorer.AnyScorerDocSet.TheImpl.{ghosts}
use Rattle.qm_weight.specs.ClauseScorers.{AreClauseScorers}
use Rattle.qm_weight.specs.Weights.{term_clauses}
use Rattle.qm_weight.proofs.terms_weight.joined.boxed_scorer.Given as goal

abbrev pub invariant-loop-clause : goal.invariant-loop-clause
invariant-loop-clause g l =
    AreClauseScorers (ghosts g.row.S g.S.Scorer g.S.Scorer-dict g.S.DocSet g.S.DocSet-dict g.S.Destruct-dict)
    (term_clauses l.weight.rule.scoring_enabled l.weight.norms (take l.clause-index l.weight.clauses.items)) l.boost l.reader.segment l.scorers
