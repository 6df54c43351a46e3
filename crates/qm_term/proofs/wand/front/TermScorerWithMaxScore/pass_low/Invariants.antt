use Rattle.std.proofs.Common.{◌≡◌, ◌<◌, ◌≤◌, ◌≤ℤ◌, length, pos, take}
use Rattle.qm_term.specs.Pivot.{head, looked_at}
use Rattle.qm_term.specs.RunScorers.{IsRunScorer, looked_by, run_boost, wand_member}
use Rattle.qm_term.specs.SingleRun.{behind}
use Rattle.qm_term.proofs.WandScores.{Each}
use Rattle.qm_term.proofs.wand.front.TermScorerWithMaxScore.pass_low.Given as goal

abbrev pub invariant-loop-doc : goal.invariant-loop-doc
invariant-loop-doc g l = record {
  valid : IsRunScorer l.self;
  looking : looked_by l.self ≡ looked_at 0 (wand_member l.self);
  boost : run_boost l.self ≡ run_boost l.fn.self;
  here : l.doc ≡ head (wand_member l.self);
  most : l.passed ≤ length (wand_member l.fn.self).entries;
  list : wand_member l.self ≡ behind l.passed (wand_member l.fn.self);
  before : Each (λ e. e.document < l.end) (take l.passed (wand_member l.fn.self).entries);
  low : Each (λ e. pos e.score ≤ℤ l.threshold) (take l.passed (wand_member l.fn.self).entries);
}

abbrev pub decreases-loop-doc : goal.decreases-loop-doc
decreases-loop-doc g l = length (wand_member l.self).entries
