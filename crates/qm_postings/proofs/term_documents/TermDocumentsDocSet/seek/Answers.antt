use Rattle.std.proofs.Common.{map}
use Rattle.qm_docset.specs.DocumentsFacts.{AreEntries-documents}
use Rattle.qm_docset.specs.Entry.{no_limits, plain}
use Rattle.qm_docset.proofs.Plain.{documents-plain}
use Rattle.qm_docset.proofs.PlacesLeft.{left_from}
use Rattle.qm_postings.proofs.term_documents.TermDocumentsDocSet.seek.Goals as goal

pub returns-clause-left : goal.returns-clause-left
returns-clause-left c =
    let docs = c.args.self.now.documents.now in
    let found = c.gallop-self.ensures in
    record {
      entries = left_from c.args.target c.args.self.now.cursor c.gallop-self.result no_limits (map plain docs) docs (documents-plain docs)
          (AreEntries-documents 0 docs c.requires.valid.documents) found.from_start found.within found.passed found.reached;
      valid = record { within = found.within; documents = c.requires.valid.documents };
    }
