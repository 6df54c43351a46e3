-- What the readers of a line's words return, seen by what it stands for in the language.
use Rattle.std.specs.Prelude.{◌≡◌, ℕ, List, Option, None, Some, Result, Ok, Err, map, String, string_bytes}
use Rattle.std.specs.Box.{box_value}
use Rattle.std.specs.Global.{Global}
use Rattle.qm_script.specs.Script.{Query, all, none, term, phrase, phrase_prefix, boolean, boost, constant, disjunction_max, as_clauses, queries_of}
use Rattle.qm_schema.specs.declared.occur.Occur.{Occur}
use Rattle.qm_script.specs.declared.spelled_query.SpelledQuery.{SpelledQuery}
use Rattle.qm_script.specs.declared.spelled_query.SpelledQuery.TheOpen.{SpelledQuery-F}
use Rattle.qm_script.specs.declared.spelled_query.SpelledQuery.TheOpen as open_query
use Rattle.qm_script.specs.declared.spelled_query.SpelledQuery.TheFolds.{fold-SpelledQuery}
use Rattle.qm_script.specs.declared.unparsed.Unparsed.{Unparsed}
use Rattle.qm_script.specs.declared.unparsed.Unparsed.TheVariants.{Memory, NotUnderstood}

-- texts as bytes
abbrev pub texts : List (String Global) → List (List ℕ)
texts words = map string_bytes words

-- a query, where each inner query is known
abbrev pub layer_of : SpelledQuery-F Query → Query
layer_of open_query.All = all
layer_of open_query.Empty = none
layer_of (open_query.Term word) = term (string_bytes word)
layer_of (open_query.Phrase slop words) = phrase slop (texts words.items)
layer_of (open_query.PhrasePrefix most words) = phrase_prefix most (texts words.items)
layer_of (open_query.Boolean minimum clauses) = boolean minimum (as_clauses clauses.items)
layer_of (open_query.Boost factor q) = boost factor.score (box_value q)
layer_of (open_query.Const score q) = constant score.score (box_value q)
layer_of (open_query.DisjunctionMax tie_breaker queries) = disjunction_max tie_breaker (queries_of queries.items)

abbrev pub query_of : SpelledQuery → Query
query_of = fold-SpelledQuery Query layer_of

abbrev pub spelled_clause : Occur × SpelledQuery → Occur × Query
spelled_clause c = (c.0, query_of c.1)

-- What a reader of words answered, where it left these words: what the language reads, unless memory
-- ran out.
abbrev pub Reads : {X Y : Type 0} → (X → Y) → Result X Unparsed → List (List ℕ) → Option (Y × List (List ℕ)) → Type 0
Reads view (Ok x) left read = read ≡ Some (view x, left)
Reads view (Err NotUnderstood) left read = read ≡ None
Reads view (Err Memory) left read = Unit {0}

-- The same where nothing is to be left.
abbrev pub Gives : {X Y : Type 0} → (X → Y) → Result X Unparsed → Option Y → Type 0
Gives view (Ok x) read = read ≡ Some (view x)
Gives view (Err NotUnderstood) read = read ≡ None
Gives view (Err Memory) read = Unit {0}
