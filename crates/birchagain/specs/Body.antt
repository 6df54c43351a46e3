-- The one field that documents have, and what a text or some words make of it.
use Rattle.std.specs.Prelude.{ℕ, List, [], ◌∷◌, Some, codes, length, min, true}
use Rattle.qm_postings.specs.Document.{Draft, text_terms, words_of}
use Rattle.qm_schema.specs.Schema.{FieldFacts}
use Rattle.qm_schema.specs.Term.{TermKey}
use Rattle.qm_schema.specs.declared.schema.option.IndexRecordOption.TheVariants.{WithFreqsAndPositions}

-- the number of the one field that documents have
abbrev pub body_field : ℕ
body_field = 0

-- the fields: that one, indexed with positions, with lengths
abbrev pub body_fields : List FieldFacts
body_fields = record { name = codes "body"; indexed = Some WithFreqsAndPositions; lengths = true } ∷ []

-- a word as a term
abbrev pub body_term : List ℕ → TermKey
body_term word = record { field = body_field; bytes = word }

-- a document of these words: each once with all its places, and as its length how many there are, held at 255
unfoldable pub words_draft : List (List ℕ) → Draft
words_draft words = record { terms = text_terms body_field words; lengths = (body_field, min 255 (length words)) ∷ [] }

-- a document of the words of a text, which ASCII spaces part
abbrev pub text_draft : List ℕ → Draft
text_draft text = words_draft (words_of text)
