-- One document fewer is left; none where the cursor was at its end.
use Rattle.std.proofs.Common.{arith, drop, map, ap, sym, ◌∙◌}
use Rattle.qm_docset.specs.Entry.{plain}
use Rattle.qm_docset.proofs.Plain.{documents-plain}
use Rattle.qm_docset.proofs.PlacesLeft.{left_on, none_left}
use Rattle.qm_postings.proofs.term_documents.TermDocumentsDocSet.advance.Goals as goal
use Rattle.qm_postings.proofs.term_documents.TermDocumentsDocSet.advance.Goals.{then-self, else-self}

pub returns-clause-left : goal.returns-clause-left
returns-clause-left c =
    let docs = c.args.self.now.documents.now in
    let at = c.args.self.now.cursor in
    elim c.if-self.branch [
      | then-self w ↦
          rw w.self-is (record { entries = left_on 1 at (map plain docs); valid = record { within = omega arith; documents = c.requires.documents } })
      | else-self w ↦
          let ended = none_left at (map plain docs) docs (documents-plain docs) (omega arith) in
          rw w.self-is (record { entries = ended ∙ sym (ap (drop 1) ended); valid = c.requires })
    ]
