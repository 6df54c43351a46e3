use Rattle.std.proofs.Common.{◌≡◌, ℕ, ◌≤◌, length}
use Rattle.qm_term.specs.Cells.{TakesIn}
use Rattle.qm_term.specs.Pivot.{cut, head}
use Rattle.qm_term.specs.RunScorers.{IsRunScorer, wand_member}
use Rattle.qm_term.proofs.wand.front.TermScorerWithMaxScore.take_below.Given as goal

abbrev pub invariant-loop-doc : goal.invariant-loop-doc
invariant-loop-doc g l = record {
  valid : IsRunScorer l.self;
  here : l.doc ≡ head (wand_member l.self);
  part : (s : ℕ) × (s ≤ l.end) × (wand_member l.self ≡ cut s (wand_member l.fn.self)) × TakesIn g.C.ScoreCombiner.step s (wand_member l.fn.self) l.fn.cells l.cells;
}

abbrev pub decreases-loop-doc : goal.decreases-loop-doc
decreases-loop-doc g l = length (wand_member l.self).entries
