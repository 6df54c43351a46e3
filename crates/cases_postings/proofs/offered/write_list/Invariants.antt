use Rattle.std.proofs.Common.{◌≡◌, length}
use Rattle.qm_docset.specs.Entry.{head_document}
use Rattle.cases_postings.proofs.offered.write_list.Given as goal

-- the cursor stands on the document
abbrev pub invariant-loop-doc : goal.invariant-loop-doc
invariant-loop-doc g l = record {
  valid : g.P.DocSet.valid l.postings;
  placed : g.P.DocSet.placed l.postings;
  here : l.doc ≡ head_document (g.P.DocSet.entries l.postings);
}

abbrev pub decreases-loop-doc : goal.decreases-loop-doc
decreases-loop-doc g l = length (g.P.DocSet.entries l.postings)
