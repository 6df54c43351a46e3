-- The language of a script's lines: which words a line has, and what it asks for. What reads a thing from
-- the front of some words gives it, and the words behind it; None where it doesn't stand there.
use Rattle.std.specs.Prelude.{◌≡◌, ◌<◌, ◌+◌, ℕ, zero, suc, ℤ, neg_ℤ, pos, drop, option_map, ◌^◌, ◌==◌, ◌&&◌, ◌||◌, Bool, false, not, if◌then◌else◌, List, [], ◌∷◌, Option}
use Rattle.std.specs.Prelude.{None, Some, codes, filter, length, nat_lt, option_and_then}
use Rattle.std.specs.List.{AllByRecursion, slice_split}
use Rattle.std.specs.Str.{all_ascii_digits, bytes_eq}
use Rattle.std.specs.Str.Parse.{digits_value, starts_with_minus}
use Rattle.qm_schema.specs.declared.occur.Occur.{Occur}
use Rattle.qm_schema.specs.declared.occur.Occur.TheVariants.{Should, Must, MustNot}
use Rattle.qm_script.specs.declared.form.QueryForm.{QueryForm}
use Rattle.qm_script.specs.declared.form.QueryForm.TheVariants.{All, Empty, Term, Phrase, PhrasePrefix, Boolean, Boost, Const, DisjunctionMax}
use Rattle.qm_script.specs.ProgramNumbers.{most_depth}
use Rattle.qm_script.specs.declared.form.LineForm.{LineForm}
use Rattle.qm_script.specs.declared.form.LineForm.TheVariants.{Doc, Weight, Segment, Delete, Docs, Scores, Count, Prune, Top}

infixl 10 ◌>>=◌
abbrev pub ◌>>=◌ : {A B : Type 0} → Option A → (A → Option B) → Option B
o >>= f = option_and_then f o

-- ---- words

abbrev pub non_empty : List (List ℕ) → List (List ℕ)
non_empty words = filter (λ w. not (length w == 0)) words

-- a space or a tab
abbrev pub is_blank : ℕ → Bool
is_blank b = (b == 32) || (b == 9)

-- The words of a line: it is cut at spaces and tabs, and empty words are left out.
abbrev pub line_words : List ℕ → List (List ℕ)
line_words line = non_empty (slice_split is_blank line)

-- what is a word: it isn't empty, and no space is in it
pub record IsWord (word : List ℕ) : Type 0 where
  pub some : 0 < length word
  pub no_space : AllByRecursion (λ b. (b == 32) ≡ false) word

abbrev pub AreWords : List (List ℕ) → Type 0
AreWords words = AllByRecursion IsWord words

-- a word, and the words behind it
abbrev pub word_at : List (List ℕ) → Option (List ℕ × List (List ℕ))
word_at [] = None
word_at (w ∷ words) = Some (w, words)

-- the number that the word writes: decimal digits, leading zeros allowed, for a number below the limit
unfoldable pub number_below : ℕ → List ℕ → Option ℕ
number_below limit word =
    if nat_lt 0 (length word) && (all_ascii_digits word && nat_lt (digits_value 10 word) limit) then Some (digits_value 10 word) else None

-- a number up to 4294967295, and up to 9223372036854775807
unfoldable pub count_word_at : List (List ℕ) → Option (ℕ × List (List ℕ))
count_word_at words = do
  w ← word_at words
  n ← number_below (2 ^ 32) w.0
  Some (n, w.1)

unfoldable pub score_at : List (List ℕ) → Option (ℤ × List (List ℕ))
score_at words = do
  w ← word_at words
  n ← number_below (2 ^ 63) w.0
  Some (pos n, w.1)

-- a document's number: over all segments there are fewer than 18446744073709551616
unfoldable pub document_at : List (List ℕ) → Option (ℕ × List (List ℕ))
document_at words = do
  w ← word_at words
  n ← number_below (2 ^ 64) w.0
  Some (n, w.1)

-- the threshold that the word writes, from -9223372036854775808 to 9223372036854775807: a `-` may stand
-- before its digits
unfoldable pub threshold_of : List ℕ → Option ℤ
threshold_of word =
    if starts_with_minus word then option_map (λ n. neg_ℤ (pos n)) (number_below (2 ^ 63 + 1) (drop 1 word))
    else option_map pos (number_below (2 ^ 63) word)

unfoldable pub threshold_at : List (List ℕ) → Option (ℤ × List (List ℕ))
threshold_at words = do
  w ← word_at words
  threshold ← threshold_of w.0
  Some (threshold, w.1)

-- What reads something from the front of some words, and leaves the words behind it.
abbrev pub WordsReader : Type 0 → Type 0
WordsReader X = List (List ℕ) → Option (X × List (List ℕ))

-- so many, one behind another
unfoldable pub many_at : {X : Type 0} → WordsReader X → ℕ → WordsReader (List X)
many_at one zero words = Some ([], words)
many_at one (suc count) words = do
  x ← one words
  xs ← many_at one count x.1
  Some (x.0 ∷ xs.0, xs.1)

-- ---- queries

mutual
  -- a query as a line spells it, every form of the language
  pub data Query : Type 0 where
    all : Query
    none : Query
    term : List ℕ → Query
    -- the slop, and the words
    phrase : ℕ → List (List ℕ) → Query
    -- the most expansions, and the words, of which the last is a prefix
    phrase_prefix : ℕ → List (List ℕ) → Query
    -- the minimum of Should clauses that match
    boolean : ℕ → Clauses → Query
    boost : ℤ → Query → Query
    constant : ℤ → Query → Query
    -- the tie breaker, in thousandths
    disjunction_max : ℕ → Queries → Query

  pub data Clauses : Type 0 where
    no_clause : Clauses
    clause : Occur → Query → Clauses → Clauses

  pub data Queries : Type 0 where
    no_query : Queries
    query : Query → Queries → Queries

abbrev pub as_clauses : List (Occur × Query) → Clauses
as_clauses [] = no_clause
as_clauses (c ∷ cs) = clause c.0 c.1 (as_clauses cs)

abbrev pub clause_list : Clauses → List (Occur × Query)
clause_list no_clause = []
clause_list (clause occur q clauses) = (occur, q) ∷ clause_list clauses

abbrev pub queries_of : List Query → Queries
queries_of [] = no_query
queries_of (q ∷ qs) = query q (queries_of qs)

-- the word by which a query begins
unfoldable pub form_named : List ℕ → Option QueryForm
form_named w =
    if bytes_eq w (codes "term") then Some Term
    else if bytes_eq w (codes "bool") then Some Boolean
    else if bytes_eq w (codes "phrase") then Some Phrase
    else if bytes_eq w (codes "prefix") then Some PhrasePrefix
    else if bytes_eq w (codes "boost") then Some Boost
    else if bytes_eq w (codes "max") then Some DisjunctionMax
    else if bytes_eq w (codes "const") then Some Const
    else if bytes_eq w (codes "all") then Some All
    else if bytes_eq w (codes "none") then Some Empty
    else None

-- the sign before a clause
unfoldable pub occur_named : List ℕ → Option Occur
occur_named w =
    if bytes_eq w (codes "+") then Some Must
    else if bytes_eq w (codes "?") then Some Should
    else if bytes_eq w (codes "-") then Some MustNot
    else None

-- ---- what stands at the front of some words, and the words behind it

unfoldable pub term_query_at : List (List ℕ) → Option (Query × List (List ℕ))
term_query_at words = do
  w ← word_at words
  Some (term w.0, w.1)

-- the slop, how many words, and the words
unfoldable pub phrase_at : List (List ℕ) → Option (Query × List (List ℕ))
phrase_at words = do
  slop ← count_word_at words
  count ← count_word_at slop.1
  ws ← many_at word_at count.0 count.1
  Some (phrase slop.0 ws.0, ws.1)

-- the most expansions, how many words, and the words
unfoldable pub phrase_prefix_at : List (List ℕ) → Option (Query × List (List ℕ))
phrase_prefix_at words = do
  most ← count_word_at words
  count ← count_word_at most.1
  ws ← many_at word_at count.0 count.1
  Some (phrase_prefix most.0 ws.0, ws.1)

unfoldable pub sign_at : List (List ℕ) → Option (Occur × List (List ℕ))
sign_at words = do
  w ← word_at words
  occur ← occur_named w.0
  Some (occur, w.1)

abbrev pub QueryReader : Type 0
QueryReader = WordsReader Query

-- a clause: its sign, and its query
unfoldable pub clause_at : QueryReader → WordsReader (Occur × Query)
clause_at inner words = do
  occur ← sign_at words
  q ← inner occur.1
  Some ((occur.0, q.0), q.1)

-- the minimum, how many clauses, and the clauses
unfoldable pub boolean_at : QueryReader → QueryReader
boolean_at inner words = do
  minimum ← count_word_at words
  count ← count_word_at minimum.1
  clauses ← many_at (clause_at inner) count.0 count.1
  Some (boolean minimum.0 (as_clauses clauses.0), clauses.1)

unfoldable pub boost_at : QueryReader → QueryReader
boost_at inner words = do
  factor ← score_at words
  q ← inner factor.1
  Some (boost factor.0 q.0, q.1)

unfoldable pub constant_at : QueryReader → QueryReader
constant_at inner words = do
  score ← score_at words
  q ← inner score.1
  Some (constant score.0 q.0, q.1)

-- the tie breaker, how many queries, and the queries
unfoldable pub disjunction_max_at : QueryReader → QueryReader
disjunction_max_at inner words = do
  tie_breaker ← count_word_at words
  count ← count_word_at tie_breaker.1
  queries ← many_at inner count.0 count.1
  Some (disjunction_max tie_breaker.0 (queries_of queries.0), queries.1)

-- what stands behind the first word of a query
unfoldable pub behind_form : QueryReader → QueryForm → QueryReader
behind_form inner All words = Some (all, words)
behind_form inner Empty words = Some (none, words)
behind_form inner Term words = term_query_at words
behind_form inner Phrase words = phrase_at words
behind_form inner PhrasePrefix words = phrase_prefix_at words
behind_form inner Boolean words = boolean_at inner words
behind_form inner Boost words = boost_at inner words
behind_form inner Const words = constant_at inner words
behind_form inner DisjunctionMax words = disjunction_max_at inner words

-- a query whose first word is read by its form, and its inner queries by the reader
unfoldable pub form_at : QueryReader → QueryReader
form_at inner words = do
  w ← word_at words
  form ← form_named w.0
  behind_form inner form w.1

-- a query that is at most so deep: `all` is 1 deep, `boost K all` is 2
unfoldable pub query_at : ℕ → QueryReader
query_at zero words = None
query_at (suc depth) words = form_at (query_at depth) words

-- ---- lines

-- what a line asks for
pub data Request : Type 0 where
  -- the line has no word
  nothing : Request
  add_document : List (List ℕ) → Request
  set_weight : List ℕ → ℤ → Request
  end_segment : Request
  -- the document's number over all segments
  delete_document : ℕ → Request
  list_documents : Query → Request
  list_scores : Query → Request
  count_matches : Query → Request
  -- the threshold by which each segment begins
  list_above : ℤ → Query → Request
  -- how many documents at most
  list_best : ℕ → Query → Request

-- what was read, where no word stands behind it
abbrev pub whole : {X : Type 0} → X × List (List ℕ) → Option X
whole (x, []) = Some x
whole (x, w ∷ words) = None

unfoldable pub weight_at : List (List ℕ) → Option Request
weight_at words = do
  w ← word_at words
  weight ← score_at w.1
  n ← whole weight
  Some (set_weight w.0 n)

unfoldable pub delete_at : List (List ℕ) → Option Request
delete_at words = do
  number ← document_at words
  n ← whole number
  Some (delete_document n)

-- a query that takes all of the words
unfoldable pub whole_query : List (List ℕ) → Option Query
whole_query words = do
  q ← query_at most_depth words
  whole q

unfoldable pub prune_at : List (List ℕ) → Option Request
prune_at words = do
  threshold ← threshold_at words
  q ← whole_query threshold.1
  Some (list_above threshold.0 q)

unfoldable pub top_at : List (List ℕ) → Option Request
top_at words = do
  count ← count_word_at words
  q ← whole_query count.1
  Some (list_best count.0 q)

-- what stands behind the first word of a line
unfoldable pub behind_line_form : LineForm → List (List ℕ) → Option Request
behind_line_form Doc words = Some (add_document words)
behind_line_form Weight words = weight_at words
behind_line_form Segment words = whole (end_segment, words)
behind_line_form Delete words = delete_at words
behind_line_form Docs words = option_map list_documents (whole_query words)
behind_line_form Scores words = option_map list_scores (whole_query words)
behind_line_form Count words = option_map count_matches (whole_query words)
behind_line_form Prune words = prune_at words
behind_line_form Top words = top_at words

-- the word by which a line begins
unfoldable pub line_form_named : List ℕ → Option LineForm
line_form_named w =
    if bytes_eq w (codes "doc") then Some Doc
    else if bytes_eq w (codes "docs") then Some Docs
    else if bytes_eq w (codes "count") then Some Count
    else if bytes_eq w (codes "scores") then Some Scores
    else if bytes_eq w (codes "top") then Some Top
    else if bytes_eq w (codes "prune") then Some Prune
    else if bytes_eq w (codes "weight") then Some Weight
    else if bytes_eq w (codes "segment") then Some Segment
    else if bytes_eq w (codes "delete") then Some Delete
    else None

unfoldable pub words_request : List (List ℕ) → Option Request
words_request [] = Some nothing
words_request (w ∷ words) = do
  form ← line_form_named w
  behind_line_form form words

-- What a line asks for; None where it isn't understood. A line that isn't UTF-8 is not understood either.
abbrev pub line_request : List ℕ → Option Request
line_request line = words_request (line_words line)
