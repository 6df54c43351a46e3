-- The words of a query that weigh anything, and words that stand in bytes.
use Rattle.std.specs.Prelude.{◌≡◌, ◌+◌, ℕ, List, [], ◌∷◌, ◌++◌, length}
use Rattle.std.specs.List.{flat_map}
use Rattle.qm_script.specs.Script.{Clauses, Queries, Query, all, boolean, boost, clause, constant, disjunction_max, no_clause, no_query, none, phrase}
use Rattle.qm_script.specs.Script.{phrase_prefix, query, term}
use Rattle.birchagain_queries.specs.declared.laid_words.LaidWords.{LaidWords}

-- words without the last
abbrev pub full_words : List (List ℕ) → List (List ℕ)
full_words [] = []
full_words (w ∷ []) = []
full_words (w ∷ v ∷ words) = w ∷ full_words (v ∷ words)

abbrev mutual
  -- the words of a query that weigh anything, in the order in which they stand: all but the beginnings of others
  pub weighing_words : Query → List (List ℕ)
  weighing_words all = []
  weighing_words none = []
  weighing_words (term word) = word ∷ []
  weighing_words (phrase slop words) = words
  weighing_words (phrase_prefix most words) = full_words words
  weighing_words (boolean minimum clauses) = words_of_clauses clauses
  weighing_words (boost factor q) = weighing_words q
  weighing_words (constant score q) = weighing_words q
  weighing_words (disjunction_max tie_breaker queries) = words_of_queries queries

  -- those of clauses, of those that must not match too
  pub words_of_clauses : Clauses → List (List ℕ)
  words_of_clauses no_clause = []
  words_of_clauses (clause occur q clauses) = weighing_words q ++ words_of_clauses clauses

  -- those of queries
  pub words_of_queries : Queries → List (List ℕ)
  words_of_queries no_query = []
  words_of_queries (query q queries) = weighing_words q ++ words_of_queries queries

-- ---- words that stand in bytes, one behind the other

-- the bytes of words
abbrev pub bytes_of : List (List ℕ) → List ℕ
bytes_of words = flat_map (λ w. w) words

-- where each word ends, of which the first begins at a place
abbrev pub ends_from : ℕ → List (List ℕ) → List ℕ
ends_from start [] = []
ends_from start (w ∷ words) = (start + length w) ∷ ends_from (start + length w) words

-- these words stand there
pub record AreLaid (words : List (List ℕ)) (laid : LaidWords) : Type 0 where
  pub bytes : laid.bytes.items ≡ bytes_of words
  pub ends : laid.ends.items ≡ ends_from 0 words
