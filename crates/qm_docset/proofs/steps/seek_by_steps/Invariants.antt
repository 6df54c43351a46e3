use Rattle.std.proofs.Common.{◌≡◌, length}
use Rattle.qm_docset.specs.Entry.{from, head_document}
use Rattle.qm_docset.proofs.steps.seek_by_steps.Given as goal

abbrev pub invariant-loop-doc : goal.invariant-loop-doc
invariant-loop-doc g l = record {
  from_target : from l.target (g.D.DocSet.entries l.docset) ≡ from l.target (g.D.DocSet.entries l.fn.docset);
  here : l.doc ≡ head_document (g.D.DocSet.entries l.docset);
  limits : g.D.DocSet.limits l.docset ≡ g.D.DocSet.limits l.fn.docset;
  valid : g.D.DocSet.valid l.docset;
  placed : g.D.DocSet.placed l.docset;
}

abbrev pub decreases-loop-doc : goal.decreases-loop-doc
decreases-loop-doc g l = length (g.D.DocSet.entries l.docset)
