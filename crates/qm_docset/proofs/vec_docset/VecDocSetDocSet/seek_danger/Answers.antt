-- A seek reaches no document before its target.
use Rattle.qm_docset.specs.CursorFacts.{head_document-reached}
use Rattle.qm_docset.specs.DocumentsFacts.{AreEntries-documents}
use Rattle.qm_docset.proofs.vec_docset.VecDocSetDocSet.seek_danger.Goals as goal

pub seek_answer-requires : goal.seek_answer-requires
seek_answer-requires c =
    let ascends = AreEntries-documents c.args.self.now.cursor c.args.self.now.docs.items c.requires.valid.documents in
    rw (c.seek-doc.ensures.head, c.seek-doc.ensures.left.entries) (head_document-reached c.args.target 0 _ _ c.requires.target ascends)
