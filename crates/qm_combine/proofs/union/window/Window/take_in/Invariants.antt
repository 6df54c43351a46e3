use Rattle.std.proofs.Common.{◌≡◌, ℕ, ◌+◌, ◌<◌, ◌≤◌, length, fold, min, vec_capacity}
use Rattle.qm_docset.specs.Entry.{from, head_document}
use Rattle.qm_docset.specs.Words.{words_have}
use Rattle.qm_combine.specs.WindowStates.{place_state}
use Rattle.qm_combine.proofs.Marking.{IsMarking}
use Rattle.qm_combine.proofs.TakenIn.{taken}
use Rattle.qm_combine.proofs.union.window.Window.take_in.Given as goal

abbrev pub invariant-loop-doc : goal.invariant-loop-doc
invariant-loop-doc g l = record {
  here : l.doc ≡ head_document (g.S.DocSet.entries l.scorer);
  left : g.S.DocSet.entries l.scorer ≡ from (min l.doc l.bound) (g.S.DocSet.entries l.fn.scorer);
  limits : g.S.DocSet.limits l.scorer ≡ g.S.DocSet.limits l.fn.scorer;
  valid : g.S.DocSet.valid l.scorer;
  placed : g.S.DocSet.placed l.scorer;
  marks : IsMarking l.fn.self.start l.doc l.last (words_have l.fn.self.buckets.items) (words_have l.buckets) (g.S.DocSet.entries l.fn.scorer);
  room : 4096 ≤ vec_capacity l.states;
  states : (x : ℕ) → x < 4096
      → place_state l.buckets l.states.items l.fn.self.combiner x ≡ fold g.C.ScoreCombiner.step
      (place_state l.fn.self.buckets.items l.fn.self.states.items l.fn.self.combiner x)
      (taken l.doc (l.fn.self.start + x) (g.S.DocSet.entries l.fn.scorer));
}

abbrev pub decreases-loop-doc : goal.decreases-loop-doc
decreases-loop-doc g l = length (g.S.DocSet.entries l.scorer)
