-- The document that the texts of some fields make, and what a caller gives behind them.
use Rattle.std.specs.Prelude.{ℕ, ◌++◌, List, length, map, min, String, string_bytes}
use Rattle.std.specs.Global.{Global}
use Rattle.std.specs.List.{flat_map}
use Rattle.qm_postings.specs.Document.{Draft, Given, text_terms, words_of}

-- a text, behind the number of its field
abbrev pub FieldText : Type 0
FieldText = ℕ × String Global

-- the terms that a text of a field gives, each with its places
abbrev pub terms_given : FieldText → List Given
terms_given text = text_terms text.0 (words_of (string_bytes text.1))

-- the length id that it gives the field: how many words it has, held at 255
abbrev pub length_given : FieldText → ℕ × ℕ
length_given text = (text.0, min 255 (length (words_of (string_bytes text.1))))

-- what a document is given by texts, one after another
unfoldable pub texts_draft : List FieldText → Draft
texts_draft texts = record { terms = flat_map terms_given texts; lengths = map length_given texts }

-- a document that is given further terms and length ids, behind those that it has
abbrev pub with_given : Draft → List Given → List (ℕ × ℕ) → Draft
with_given draft terms lengths = record { terms = draft.terms ++ terms; lengths = draft.lengths ++ lengths }
