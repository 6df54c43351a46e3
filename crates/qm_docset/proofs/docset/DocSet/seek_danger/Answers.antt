-- A seek reaches no document before its target.
use Rattle.qm_docset.specs.CursorFacts.{head_document-reached}
use Rattle.qm_docset.proofs.docset.DocSet.seek_danger.Goals as goal

pub seek_answer-requires : goal.seek_answer-requires
seek_answer-requires g c =
    let ascends = g.met.Self.DocSet.ascending c.args.self.now c.requires.valid in
    rw (c.seek-doc.ensures.head, c.seek-doc.ensures.entries) (head_document-reached c.args.target 0 _ _ c.requires.target ascends)
