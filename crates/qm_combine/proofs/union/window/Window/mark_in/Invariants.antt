use Rattle.std.proofs.Common.{◌≡◌, ◌+◌, ◌*◌, ◌<◌, ◌≤◌, length}
use Rattle.qm_docset.specs.Entry.{from, head_document}
use Rattle.qm_docset.specs.Words.{words_have}
use Rattle.qm_combine.proofs.Marking.{IsMarking}
use Rattle.qm_combine.proofs.union.window.Window.mark_in.Given as goal

abbrev pub invariant-loop-taken : goal.invariant-loop-taken
invariant-loop-taken g l = record {
  few : l.taken ≤ 64;
  left : g.D.DocSet.entries l.docset ≡ from (head_document (g.D.DocSet.entries l.docset)) (g.D.DocSet.entries l.fn.docset);
  kept : from l.fn.bound (g.D.DocSet.entries l.docset) ≡ from l.fn.bound (g.D.DocSet.entries l.fn.docset);
  all : l.taken < 64 → g.D.DocSet.entries l.docset ≡ from l.fn.bound (g.D.DocSet.entries l.fn.docset);
  limits : g.D.DocSet.limits l.docset ≡ g.D.DocSet.limits l.fn.docset;
  valid : g.D.DocSet.valid l.docset;
  placed : g.D.DocSet.placed l.docset;
  long : length l.buckets ≡ 64;
  marks : IsMarking l.fn.self.start (head_document (g.D.DocSet.entries l.docset)) l.last (words_have l.fn.self.buckets.items) (words_have l.buckets)
      (g.D.DocSet.entries l.fn.docset);
}

abbrev pub decreases-loop-taken : goal.decreases-loop-taken
decreases-loop-taken g l = 2 * length (g.D.DocSet.entries l.docset) + l.taken
