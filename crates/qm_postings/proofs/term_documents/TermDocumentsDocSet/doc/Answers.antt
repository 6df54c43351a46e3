-- The documents are those of the entries.
use Rattle.std.proofs.Common.{◌≡◌, ◌<◌, ◌≤◌, ap, get_or, length, map, rules, sym, ◌∙◌}
use Rattle.qm_docset.specs.Entry.{head_document, plain}
use Rattle.qm_docset.proofs.Plain.{documents-plain}
use Rattle.qm_docset.proofs.PlacesLeft.{document_at, none_left}
use Rattle.qm_postings.proofs.term_documents.TermDocumentsDocSet.doc.Goals as goal

pub returns-in-Some : goal.returns-in-Some
returns-in-Some c =
    let s = c.args.self.now in
    let docs = s.documents.now in
    let inside : s.cursor < length docs = search rules in
    let found : c.in-Some.doc.now ≡ get_or docs s.cursor c.in-Some.doc.now = search rules in
    found ∙ sym (document_at s.cursor (map plain docs) docs c.in-Some.doc.now (documents-plain docs) inside)

pub returns-in-None : goal.returns-in-None
returns-in-None c =
    let s = c.args.self.now in
    let docs = s.documents.now in
    let past : length docs ≤ s.cursor = search rules in
    sym (ap head_document (none_left s.cursor (map plain docs) docs (documents-plain docs) past))
