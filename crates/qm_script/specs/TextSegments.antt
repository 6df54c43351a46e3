-- The segment that the texts of some documents make.
use Rattle.std.specs.Prelude.{◌≡◌, ℕ, List, [], ◌∷◌, length, min}
use Rattle.qm_postings.specs.Document.{Draft, text_terms, words_of}
use Rattle.qm_postings.specs.Segment.{Document, IsGood, Segment, document_of, with_document}
use Rattle.qm_schema.specs.Schema.{FieldFacts}
use Rattle.qm_schema.specs.declared.error.QueryError.{QueryError}
use Rattle.qm_schema.specs.declared.error.QueryError.TheVariants.{TooManyDocuments, BadDocument}
use Rattle.birchagain.specs.Body.{body_field}
use Rattle.qm_script.specs.ProgramNumbers.{most_documents}

-- a document with the words of a text
unfoldable pub text_draft : List ℕ → Draft
text_draft text = record { terms = text_terms body_field (words_of text); lengths = (body_field, min 255 (length (words_of text))) ∷ [] }

-- the document that a segment with this schema keeps of a text
unfoldable pub text_document : List FieldFacts → List ℕ → Document
text_document schema text = document_of schema (text_draft text)

-- a segment does not take the document of a text
abbrev pub IsBadText : List FieldFacts → List ℕ → Type 0
IsBadText schema text = ¬ IsGood schema (text_draft text)

-- a segment with the document of one text more
abbrev pub with_text : Segment → List ℕ → Segment
with_text segment text = with_document segment (text_document segment.schema text)

-- why a segment may refuse the document of a text, want of memory aside
abbrev pub IsTextRefusal : Segment → List ℕ → QueryError → Type 0
IsTextRefusal segment text TooManyDocuments = length segment.documents ≡ most_documents
IsTextRefusal segment text BadDocument = IsBadText segment.schema text
IsTextRefusal segment text error = ⊥
