-- Which queries have a phrase prefix that fails a test. Of a segment that is kept in parts they ask the terms of the
-- whole, where others ask documents alone.
use Rattle.std.specs.Prelude.{ℕ, Bool, true, false, not, ◌||◌, List, [], ◌∷◌}
use Rattle.birchagain.specs.Body.{body_term}
use Rattle.qm_script.specs.PrefixFree.{PrefixTest}
use Rattle.qm_script.specs.Script.{Query, Clauses, Queries, all, none, term, phrase, phrase_prefix, boolean, boost, constant, disjunction_max, no_clause}
use Rattle.qm_script.specs.Script.{clause, no_query, query}

-- the last of some words passes the test, as a prefix that is expanded to at most so many terms; so it is without words
abbrev pub last_passes : PrefixTest → ℕ → List (List ℕ) → Bool
last_passes test most [] = true
last_passes test most (w ∷ []) = test (body_term w) most
last_passes test most (w ∷ v ∷ words) = last_passes test most (v ∷ words)

abbrev mutual
  -- a phrase prefix in the query fails it
  pub has_failing : PrefixTest → Query → Bool
  has_failing test all = false
  has_failing test none = false
  has_failing test (term word) = false
  has_failing test (phrase slop words) = false
  has_failing test (phrase_prefix most words) = not (last_passes test most words)
  has_failing test (boolean minimum clauses) = have_clauses_failing test clauses
  has_failing test (boost factor inner) = has_failing test inner
  has_failing test (constant score inner) = has_failing test inner
  has_failing test (disjunction_max tie_breaker queries) = have_queries_failing test queries

  pub have_clauses_failing : PrefixTest → Clauses → Bool
  have_clauses_failing test no_clause = false
  have_clauses_failing test (clause occur inner clauses) = has_failing test inner || have_clauses_failing test clauses

  pub have_queries_failing : PrefixTest → Queries → Bool
  have_queries_failing test no_query = false
  have_queries_failing test (query inner queries) = has_failing test inner || have_queries_failing test queries
