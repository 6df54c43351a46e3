-- What a cursor over the documents of a term shows of its fields.
use Rattle.std.specs.Prelude.{◌≡◌, ◌≤◌, List, drop, length, map}
use Rattle.qm_docset.specs.Documents.{AreDocuments}
use Rattle.qm_docset.specs.Entry.{Entry, plain}
use Rattle.qm_postings.specs.declared.term_documents.TermDocuments.{TermDocuments}

-- the documents that remain
abbrev pub documents_left : TermDocuments → List Entry
documents_left s = drop s.cursor (map plain s.documents.now)

-- its list is one of documents, and it stands within it or at its end
pub record IsOverDocuments (s : TermDocuments) : Type 0 where
  pub within : s.cursor ≤ length s.documents.now
  pub documents : AreDocuments s.documents.now

-- what a call leaves of a cursor
pub record LeavesDocuments (s : TermDocuments) (es : List Entry) : Type 0 where
  pub entries : documents_left s ≡ es
  pub valid : IsOverDocuments s
