-- Those that stand before are in the answer.
use Rattle.std.proofs.Common.{◌≡◌, map, take}
use Rattle.qm_query.specs.KeptDocument.{answer_of}
use Rattle.qm_query.proofs.top_docs.kept_documents.KeptDocuments.into_best.Given as goal

abbrev pub invariant-loop-document : goal.invariant-loop-document
invariant-loop-document l = l.best.items ≡ map answer_of (take l.document-index l.document-items)
