use Rattle.std.proofs.Common.{◌≡◌, length}
use Rattle.qm_docset.specs.Entry.{head_document}
use Rattle.bench_store.proofs.queried.score_all.Given as goal

-- the scorer stands on the document
abbrev pub invariant-loop-doc : goal.invariant-loop-doc
invariant-loop-doc g l = record {
  valid : g.S.DocSet.valid l.scorer;
  placed : g.S.DocSet.placed l.scorer;
  here : l.doc ≡ head_document (g.S.DocSet.entries l.scorer);
}

abbrev pub decreases-loop-doc : goal.decreases-loop-doc
decreases-loop-doc g l = length (g.S.DocSet.entries l.scorer)
