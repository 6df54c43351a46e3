-- The run over what the scorer has left, from the threshold on, is still to be made.
use Rattle.std.proofs.Common.{◌≡◌, ◌≤◌, ◌+◌, ℤ, List, length}
use Rattle.qm_docset.specs.Entry.{head_document}
use Rattle.qm_term.specs.RunCounts.{calls_of}
use Rattle.qm_term.specs.Runs.{InRange, MayPrune, Plain}
use Rattle.qm_weight.proofs.pruning.prune_to_bound.Given as goal

abbrev pub invariant-loop-doc : goal.invariant-loop-doc
invariant-loop-doc g l = record {
  allowed : MayPrune (InRange (goal.F-step g)) (goal.F-pre g) l.threshold l.callback (g.S.DocSet.entries l.scorer);
  calls : (ths : List ℤ) (last : ℤ) (f : _) → Plain (InRange (goal.F-step g)) l.threshold l.callback (g.S.DocSet.entries l.scorer) ths last f →
      (all : List ℤ) × Plain (InRange (goal.F-step g)) l.fn.threshold l.fn.callback (g.S.DocSet.entries l.fn.scorer) all last f
      × (calls_of all (g.S.DocSet.entries l.fn.scorer) ≤ l.scored + calls_of ths (g.S.DocSet.entries l.scorer));
  scored : l.scored + length (g.S.DocSet.entries l.scorer) ≡ length (g.S.DocSet.entries l.fn.scorer);
  here : l.doc ≡ head_document (g.S.DocSet.entries l.scorer);
  limits : g.S.DocSet.limits l.scorer ≡ g.S.DocSet.limits l.fn.scorer;
  valid : g.S.DocSet.valid l.scorer;
  placed : g.S.DocSet.placed l.scorer;
}

abbrev pub decreases-loop-doc : goal.decreases-loop-doc
decreases-loop-doc g l = length (g.S.DocSet.entries l.scorer)
