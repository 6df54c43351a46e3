-- What a text says in one of the languages of queries.
use Rattle.std.specs.Prelude.{◌≡◌, ℕ, zero, suc, true, false, List, IsUtf8, Option, None, Some, Ok, Err}
use Rattle.qm_parser.specs.Query as typed
use Rattle.qm_parser.specs.Trees.{tree_of_text}
use Rattle.qm_parser.specs.declared.parse_error.ParseError.{ParseError}
use Rattle.qm_parser.specs.declared.parse_error.ParseError.TheVariants as parse_error
use Rattle.qm_parser.specs.declared.parse_error.Refusal.{Refusal}
use Rattle.qm_schema.specs.declared.error.QueryError.TheVariants.{Memory}
use Rattle.qm_script.specs.Script.{Query, line_words, whole_query}
use Rattle.birchagain_queries.specs.Translation.{names_field, said_query}
use Rattle.birchagain_queries.specs.declared.language.Language.{Language}
use Rattle.birchagain_queries.specs.declared.language.Language.TheVariants.{Script, Typed}
use Rattle.birchagain_queries.specs.declared.refusal.QueryRefusal.{QueryRefusal}
use Rattle.birchagain_queries.specs.declared.refusal.QueryRefusal.TheVariants as why

-- the language of a number: 0 is the typed one, and 1 that of scripts
abbrev pub language_of : ℕ → Option Language
language_of zero = Some Typed
language_of (suc zero) = Some Script
language_of (suc (suc n)) = None

-- the text is one of the typed language, its tree names no field, and says the query
pub record SaysTyped (text : List ℕ) (q : Query) : Type 0 where
  pub utf8 : IsUtf8 text
  pub tree : typed.Query
  pub parsed : tree_of_text text ≡ Ok tree
  pub fieldless : names_field tree ≡ false
  pub said : q ≡ said_query tree

-- the words of the text spell the query, all of them
pub record SaysInScript (text : List ℕ) (q : Query) : Type 0 where
  pub utf8 : IsUtf8 text
  pub spelled : whole_query (line_words text) ≡ Some q

-- a text says a query, all of it
abbrev pub Says : Language → List ℕ → Query → Type 0
Says Typed text q = SaysTyped text q
Says Script text q = SaysInScript text q

-- a typed text whose tree names a field
abbrev pub HasField : List ℕ → Type 0
HasField text = (tree : typed.Query) × (tree_of_text text ≡ Ok tree) × (names_field tree ≡ true)

-- why a text of the typed language may say none, want of memory aside: it isn't UTF-8, it has no tree, or this names a field
abbrev pub IsUntyped : List ℕ → QueryRefusal → Type 0
IsUntyped text (why.Query error) = error ≡ Memory
IsUntyped text why.NotUnderstood = ¬ IsUtf8 text
IsUntyped text (why.Untyped refusal) = tree_of_text text ≡ Err refusal
IsUntyped text why.NamesField = HasField text
IsUntyped text refusal = ⊥

-- the same in the language of scripts: it isn't UTF-8, or its words spell no query
abbrev pub IsUnspelled : List ℕ → QueryRefusal → Type 0
IsUnspelled text (why.Query error) = error ≡ Memory
IsUnspelled text why.NotUnderstood = IsUtf8 text → whole_query (line_words text) ≡ None
IsUnspelled text refusal = ⊥

-- why a text may say no query in a language
abbrev pub IsUnread : Language → List ℕ → QueryRefusal → Type 0
IsUnread Typed text refusal = IsUntyped text refusal
IsUnread Script text refusal = IsUnspelled text refusal

-- what the error of the typed language's reader becomes
abbrev pub refusal_of : ParseError → QueryRefusal
refusal_of parse_error.Memory = why.Query Memory
refusal_of (parse_error.Refused refusal) = why.Untyped refusal
