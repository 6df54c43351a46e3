use Rattle.std.proofs.Common.{◌≡◌, ℕ, ◌<◌, ◌≤◌, ◌∷◌, All, map, take}
use Rattle.qm_combine.specs.HeldSum.{held_sum}
use Rattle.qm_docset.specs.Entry.{greatest_score}
use Rattle.qm_docset.specs.Gather.{scores_at}
use Rattle.qm_docset.specs.declared.numbers.TheConstants.{TERMINATED}
use Rattle.qm_term.specs.TermScorer.{IsTermScorer, scored_left}
use Rattle.qm_term.proofs.wand.conjunction.look_at_all.Given as goal

abbrev pub invariant-loop-other : goal.invariant-loop-other
invariant-loop-other g l = record {
  valid : All IsTermScorer l.others;
  same : map scored_left l.others ≡ map scored_left l.fn.others;
  past : l.doc < l.next;
  end : l.next ≤ TERMINATED;
  most : l.bound ≤ greatest_score;
  bounded : (d : ℕ) → l.doc ≤ d → d < l.next →
      held_sum (scores_at d (scored_left l.fn.leader ∷ take l.other-index (map scored_left l.fn.others))) ≤ l.bound;
}
