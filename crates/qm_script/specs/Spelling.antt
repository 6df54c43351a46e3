-- How requests are spelled: their words, and the line of these. The language reads each back from there.
use Rattle.std.specs.Prelude.{◌≡◌, ◌<◌, ◌≤◌, ◌^◌, ℕ, suc, ℤ, pos, negsuc, max, false, List, [], ◌∷◌, ◌++◌, codes, length}
use Rattle.std.specs.Fmt.{decimal, signed_decimal}
use Rattle.std.specs.List.{AllByRecursion, join_with_byte}
use Rattle.qm_schema.specs.declared.occur.Occur.{Occur}
use Rattle.qm_schema.specs.declared.occur.Occur.TheVariants.{Should, Must, MustNot}
use Rattle.qm_script.specs.Script.{Clauses, Queries, Query, Request, add_document, all, boolean, boost, clause, constant, count_matches, delete_document}
use Rattle.qm_script.specs.Script.{disjunction_max, end_segment, is_blank, list_above, list_best, list_documents, list_scores, no_clause, no_query, none, nothing, phrase}
use Rattle.qm_script.specs.Script.{phrase_prefix, query, set_weight, term}
use Rattle.qm_script.specs.ProgramNumbers.{most_depth}

-- ---- queries

-- the word before a clause
abbrev pub sign : Occur → List ℕ
sign Must = codes "+"
sign Should = codes "?"
sign MustNot = codes "-"

abbrev pub clause_count : Clauses → ℕ
clause_count no_clause = 0
clause_count (clause occur q clauses) = suc (clause_count clauses)

abbrev pub query_count : Queries → ℕ
query_count no_query = 0
query_count (query q queries) = suc (query_count queries)

abbrev mutual
  -- the words of a query
  pub spelled : Query → List (List ℕ)
  spelled all = codes "all" ∷ []
  spelled none = codes "none" ∷ []
  spelled (term word) = codes "term" ∷ word ∷ []
  spelled (phrase slop words) = codes "phrase" ∷ decimal slop ∷ decimal (length words) ∷ words
  spelled (phrase_prefix most words) = codes "prefix" ∷ decimal most ∷ decimal (length words) ∷ words
  spelled (boolean minimum clauses) = codes "bool" ∷ decimal minimum ∷ decimal (clause_count clauses) ∷ spelled_clauses clauses
  spelled (boost factor q) = codes "boost" ∷ signed_decimal factor ∷ spelled q
  spelled (constant score q) = codes "const" ∷ signed_decimal score ∷ spelled q
  spelled (disjunction_max tie_breaker queries) = codes "max" ∷ decimal tie_breaker ∷ decimal (query_count queries) ∷ spelled_queries queries

  pub spelled_clauses : Clauses → List (List ℕ)
  spelled_clauses no_clause = []
  spelled_clauses (clause occur q clauses) = sign occur ∷ (spelled q ++ spelled_clauses clauses)

  pub spelled_queries : Queries → List (List ℕ)
  spelled_queries no_query = []
  spelled_queries (query q queries) = spelled q ++ spelled_queries queries

abbrev mutual
  -- how deep a query is: `all` is 1 deep, `boost K all` is 2
  pub query_depth : Query → ℕ
  query_depth all = 1
  query_depth none = 1
  query_depth (term word) = 1
  query_depth (phrase slop words) = 1
  query_depth (phrase_prefix most words) = 1
  query_depth (boolean minimum clauses) = suc (clauses_depth clauses)
  query_depth (boost factor q) = suc (query_depth q)
  query_depth (constant score q) = suc (query_depth q)
  query_depth (disjunction_max tie_breaker queries) = suc (queries_depth queries)

  pub clauses_depth : Clauses → ℕ
  clauses_depth no_clause = 0
  clauses_depth (clause occur q clauses) = max (query_depth q) (clauses_depth clauses)

  pub queries_depth : Queries → ℕ
  queries_depth no_query = 0
  queries_depth (query q queries) = max (query_depth q) (queries_depth queries)

-- ---- what can be spelled

abbrev pub IsCount : ℕ → Type 0
IsCount n = n < 2 ^ 32

abbrev pub IsScore : ℤ → Type 0
IsScore (pos n) = n < 2 ^ 63
IsScore (negsuc n) = ⊥

-- a document's number over all segments
abbrev pub IsDocumentNumber : ℕ → Type 0
IsDocumentNumber n = n < 2 ^ 64

-- a threshold, from -2 ^ 63 on
abbrev pub IsSpelledThreshold : ℤ → Type 0
IsSpelledThreshold (pos n) = n < 2 ^ 63
IsSpelledThreshold (negsuc n) = n < 2 ^ 63

-- a word of a line: it isn't empty, and no space or tab is in it
pub record IsLineWord (word : List ℕ) : Type 0 where
  pub some : 0 < length word
  pub no_blank : AllByRecursion (λ b. is_blank b ≡ false) word

abbrev pub AreLineWords : List (List ℕ) → Type 0
AreLineWords words = AllByRecursion IsLineWord words

abbrev mutual
  -- its numbers are in their range, and its words are words of a line
  pub CanBeSpelled : Query → Type 0
  CanBeSpelled all = Unit {0}
  CanBeSpelled none = Unit {0}
  CanBeSpelled (term word) = IsLineWord word
  CanBeSpelled (phrase slop words) = IsCount slop × IsCount (length words) × AreLineWords words
  CanBeSpelled (phrase_prefix most words) = IsCount most × IsCount (length words) × AreLineWords words
  CanBeSpelled (boolean minimum clauses) = IsCount minimum × IsCount (clause_count clauses) × ClausesCanBeSpelled clauses
  CanBeSpelled (boost factor q) = IsScore factor × CanBeSpelled q
  CanBeSpelled (constant score q) = IsScore score × CanBeSpelled q
  CanBeSpelled (disjunction_max tie_breaker queries) = IsCount tie_breaker × IsCount (query_count queries) × QueriesCanBeSpelled queries

  pub ClausesCanBeSpelled : Clauses → Type 0
  ClausesCanBeSpelled no_clause = Unit {0}
  ClausesCanBeSpelled (clause occur q clauses) = CanBeSpelled q × ClausesCanBeSpelled clauses

  pub QueriesCanBeSpelled : Queries → Type 0
  QueriesCanBeSpelled no_query = Unit {0}
  QueriesCanBeSpelled (query q queries) = CanBeSpelled q × QueriesCanBeSpelled queries

-- ---- lines

-- the words of a line that asks for this
abbrev pub request_words : Request → List (List ℕ)
request_words nothing = []
request_words (add_document words) = codes "doc" ∷ words
request_words (set_weight word weight) = codes "weight" ∷ word ∷ signed_decimal weight ∷ []
request_words end_segment = codes "segment" ∷ []
request_words (delete_document number) = codes "delete" ∷ decimal number ∷ []
request_words (list_documents q) = codes "docs" ∷ spelled q
request_words (list_scores q) = codes "scores" ∷ spelled q
request_words (count_matches q) = codes "count" ∷ spelled q
request_words (list_above threshold q) = codes "prune" ∷ signed_decimal threshold ∷ spelled q
request_words (list_best count q) = codes "top" ∷ decimal count ∷ spelled q

-- a line that asks for this: its words, with a space between each two
abbrev pub line_text : Request → List ℕ
line_text request = join_with_byte 32 (request_words request)

-- a query that a line can ask for
abbrev pub CanBeAsked : Query → Type 0
CanBeAsked q = (query_depth q ≤ most_depth) × CanBeSpelled q

-- what a line can ask for
abbrev pub IsAskable : Request → Type 0
IsAskable nothing = Unit {0}
IsAskable (add_document words) = AreLineWords words
IsAskable (set_weight word weight) = IsLineWord word × IsScore weight
IsAskable end_segment = Unit {0}
IsAskable (delete_document number) = IsDocumentNumber number
IsAskable (list_documents q) = CanBeAsked q
IsAskable (list_scores q) = CanBeAsked q
IsAskable (count_matches q) = CanBeAsked q
IsAskable (list_above threshold q) = IsSpelledThreshold threshold × CanBeAsked q
IsAskable (list_best count q) = IsCount count × CanBeAsked q

-- a line that spells a request
pub record Spells (line : List ℕ) (request : Request) : Type 0 where
  pub can_be : IsAskable request
  pub is : line ≡ line_text request
