use Rattle.std.proofs.Common.{◌≡◌}
use Rattle.qm_postings.specs.Segment.{without}
use Rattle.qm_index.proofs.Marks.{marked_before}
use Rattle.qm_index.proofs.open_document.delete_marked.Given as goal

abbrev pub invariant-loop-document : goal.invariant-loop-document
invariant-loop-document l = record {
  number : l.doc ≡ l.document-index;
  deleted : l.builder ≡ without (marked_before l.documents l.document-index) l.fn.builder;
}
