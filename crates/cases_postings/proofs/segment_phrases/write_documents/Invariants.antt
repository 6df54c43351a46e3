use Rattle.std.proofs.Common.{◌≡◌, length}
use Rattle.qm_docset.specs.Entry.{head_document}
use Rattle.cases_postings.proofs.segment_phrases.write_documents.Given as goal

-- the set stands on the document
abbrev pub invariant-loop-doc : goal.invariant-loop-doc
invariant-loop-doc g l = record {
  valid : g.S.DocSet.valid l.set;
  placed : g.S.DocSet.placed l.set;
  here : l.doc ≡ head_document (g.S.DocSet.entries l.set);
}

abbrev pub decreases-loop-doc : goal.decreases-loop-doc
decreases-loop-doc g l = length (g.S.DocSet.entries l.set)
