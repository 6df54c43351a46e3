-- What is told of the text of a query.
use Rattle.std.specs.Prelude.{◌≡◌, ◌<◌, ◌⊎◌, ◌++◌, ℕ, List, Some, Err, drop, length}
use Rattle.qm_parser.specs.Trees.{tree_of_text}
use Rattle.qm_parser.specs.declared.parse_error.Refusal.{Refusal}
use Rattle.qm_script.specs.Script.{Query}
use Rattle.birchagain_queries.specs.Found.{IsQueryRefusal, SaysBy}
use Rattle.birchagain_queries.specs.Languages.{language_of}
use Rattle.birchagain_queries.specs.QueryWords.{AreLaid, bytes_of, weighing_words}
use Rattle.birchagain_queries.specs.Statuses.{untyped_status}
use Rattle.birchagain_queries.specs.declared.language.Language.TheVariants.{Typed}
use Rattle.birchagain_queries.specs.declared.laid_words.LaidWords.{LaidWords}
use Rattle.birchagain_queries.specs.declared.refusal.QueryRefusal.{QueryRefusal}
use Rattle.birchagain_queries.specs.declared.refusal.QueryRefusal.TheVariants.{NoRoom}

-- a text says a query in the language of a number
abbrev pub IsUnderstood : ℕ → List ℕ → Type 0
IsUnderstood number text = (q : Query) × SaysBy number text q

-- the text is none of the typed language, for what this status says, and at this place
abbrev pub IsUntypedAt : ℕ → List ℕ → ℕ → ℕ → Type 0
IsUntypedAt number text status place =
    (language_of number ≡ Some Typed) × (r : Refusal) × (tree_of_text text ≡ Err r) × (status ≡ untyped_status r.kind) × (place ≡ r.at)

-- words that stand in bytes are those of the query of a text that weigh anything
abbrev pub AreWordsOf : ℕ → List ℕ → LaidWords → Type 0
AreWordsOf number text laid = (q : Query) × SaysBy number text q × AreLaid (weighing_words q) laid

-- how many bytes and words they are
abbrev pub AreTold : LaidWords → ℕ → ℕ → Type 0
AreTold laid bytes words = (bytes ≡ length laid.bytes.items) × (words ≡ length laid.ends.items)

-- words are those of a query, and their lengths are told
abbrev pub TellsWords : ℕ → List ℕ → ℕ → ℕ → LaidWords → Type 0
TellsWords number text bytes words laid = AreWordsOf number text laid × AreTold laid bytes words

-- the fronts of two arrays have these words, and the rest is what it was
pub record HaveWords (laid : LaidWords) (bytes bytes_after ends ends_after : List ℕ) : Type 0 where
  pub letters : bytes_after ≡ laid.bytes.items ++ drop (length laid.bytes.items) bytes
  pub places : ends_after ≡ laid.ends.items ++ drop (length laid.ends.items) ends

-- arrays of these lengths have less room than words take
abbrev pub HaveLess : ℕ → ℕ → LaidWords → Type 0
HaveLess bytes words laid = (bytes < length laid.bytes.items) ⊎ (words < length laid.ends.items)

-- there is less room than the words of a query take
abbrev pub IsTooLittle : ℕ → List ℕ → ℕ → ℕ → Type 0
IsTooLittle number text bytes words = (laid : LaidWords) × AreWordsOf number text laid × HaveLess bytes words laid

-- why its words may not be told
abbrev pub IsWordsRefusal : ℕ → List ℕ → ℕ → ℕ → QueryRefusal → Type 0
IsWordsRefusal number text bytes words NoRoom = IsTooLittle number text bytes words
IsWordsRefusal number text bytes words refusal = IsQueryRefusal number text refusal
