use Rattle.qm_postings.proofs.DeletedDocuments.{HasBelow}
use Rattle.qm_postings.proofs.segment_reader.alive_or_all.Given as goal

abbrev pub invariant-loop-doc : goal.invariant-loop-doc
invariant-loop-doc l = HasBelow l.documents l.count l.doc
