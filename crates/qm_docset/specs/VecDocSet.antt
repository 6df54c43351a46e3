-- What a cursor over a list of documents shows of its fields.
use Rattle.std.specs.Prelude.{◌≡◌, ℕ, ◌≤◌, List, drop, map, vec_len}
use Rattle.qm_docset.specs.Documents.{AreDocuments}
use Rattle.qm_docset.specs.Entry.{Entry, plain}
use Rattle.qm_docset.specs.declared.vec_docset.VecDocSet.{VecDocSet}

-- the documents that remain
abbrev pub remaining_documents : VecDocSet → List Entry
remaining_documents s = map plain (drop s.cursor s.docs.items)

-- its list is one of documents, and it stands within it or at its end
pub record IsVecCursor (s : VecDocSet) : Type 0 where
  pub within : s.cursor ≤ vec_len s.docs
  pub documents : AreDocuments s.docs.items

-- how many documents it was made with
abbrev pub full_length : VecDocSet → ℕ
full_length s = vec_len s.docs

-- what a call leaves of a cursor: these entries, of the list that it was made with
pub record HasLeft (old new : VecDocSet) (es : List Entry) : Type 0 where
  pub entries : remaining_documents new ≡ es
  pub valid : IsVecCursor new
  pub len : full_length new ≡ full_length old
