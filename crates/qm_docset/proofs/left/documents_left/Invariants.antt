use Rattle.std.proofs.Common.{◌≡◌, ◌++◌, length}
use Rattle.qm_docset.specs.Entry.{documents}
use Rattle.qm_docset.specs.Lists.{IsPlaced}
use Rattle.qm_docset.proofs.left.documents_left.Given as goal

abbrev pub invariant-loop-found : goal.invariant-loop-found
invariant-loop-found g l = record {
  visited : l.found.items ++ documents (g.D.DocSet.entries l.docset) ≡ documents (g.D.DocSet.entries l.fn.docset);
  placed : IsPlaced g.D.DocSet l.docset;
}

abbrev pub decreases-loop-found : goal.decreases-loop-found
decreases-loop-found g l = length (g.D.DocSet.entries l.docset)
