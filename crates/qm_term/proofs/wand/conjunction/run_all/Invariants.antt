-- The run over what all have left, from the threshold on, is still to be made.
use Rattle.std.proofs.Common.{◌≡◌, ℕ, ◌+◌, ◌-◌, ◌≤◌, ◌∷◌, All}
use Rattle.qm_docset.specs.Entry.{greatest_score, head_document}
use Rattle.qm_docset.specs.declared.numbers.TheConstants.{TERMINATED}
use Rattle.qm_term.specs.Conjunction.{IsBoundedIn, PrunesBy, common_left, turns_of}
use Rattle.qm_term.specs.Runs.{InRange, MayPrune}
use Rattle.qm_term.specs.TermScorer.{IsTermScorer, scored_left}
use Rattle.qm_term.proofs.wand.conjunction.run_all.Given as goal

abbrev pub invariant-loop-doc : goal.invariant-loop-doc
invariant-loop-doc g l = record {
  valid : All IsTermScorer (l.leader ∷ l.others);
  here : l.doc ≡ head_document (scored_left l.leader);
  end : l.stretch.next ≤ TERMINATED;
  most : l.stretch.bound ≤ greatest_score;
  bounded : IsBoundedIn l.doc l.stretch.next l.stretch.bound (common_left (l.leader ∷ l.others));
  few : l.ticks ≤ l.doc;
  may : MayPrune (InRange (goal.F-step g)) (goal.F-pre g) l.threshold l.callback (common_left (l.leader ∷ l.others));
  back : (k : ℕ) (h : _) → PrunesBy (goal.F-step g) (common_left (l.leader ∷ l.others)) l.threshold l.callback (turns_of k) h →
      PrunesBy (goal.F-step g) (common_left (l.fn.leader ∷ l.fn.others)) l.fn.threshold l.fn.callback (turns_of (l.ticks + k)) h;
}

abbrev pub decreases-loop-doc : goal.decreases-loop-doc
decreases-loop-doc g l = TERMINATED - l.doc
