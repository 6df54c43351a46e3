-- Which terms a query asks for in some segments: its words, and those that its prefixes are expanded to in each of them.
use Rattle.std.specs.Prelude.{ℕ, List, [], ◌∷◌, ◌++◌, map}
use Rattle.std.specs.List.{flat_map}
use Rattle.qm_postings.specs.Segment.{Segment}
use Rattle.qm_schema.specs.Term.{TermKey}
use Rattle.birchagain.specs.Body.{body_term}
use Rattle.qm_script.specs.Script.{Query, Clauses, Queries, all, none, term, phrase, phrase_prefix, boolean, boost, constant, disjunction_max, no_clause}
use Rattle.qm_script.specs.Script.{clause, no_query, query}
use Rattle.qm_weight.specs.Tree.{expansions}

-- the first terms of each segment that begin with a prefix, at most so many of each
abbrev pub all_expansions : List Segment → TermKey → ℕ → List TermKey
all_expansions segments prefix most = flat_map (λ s. expansions s prefix most) segments

-- those that begin with the last of some words; none without words
abbrev pub last_expansions : List Segment → ℕ → List (List ℕ) → List TermKey
last_expansions segments most [] = []
last_expansions segments most (w ∷ []) = all_expansions segments (body_term w) most
last_expansions segments most (w ∷ v ∷ words) = last_expansions segments most (v ∷ words)

-- the words of a phrase prefix as terms, and those that the last is expanded to
abbrev pub prefix_terms : List Segment → ℕ → List (List ℕ) → List TermKey
prefix_terms segments most words = map body_term words ++ last_expansions segments most words

abbrev mutual
  -- the terms that a query asks for
  pub asked_terms : List Segment → Query → List TermKey
  asked_terms segments all = []
  asked_terms segments none = []
  asked_terms segments (term word) = body_term word ∷ []
  asked_terms segments (phrase slop words) = map body_term words
  asked_terms segments (phrase_prefix most words) = prefix_terms segments most words
  asked_terms segments (boolean minimum clauses) = clauses_terms segments clauses
  asked_terms segments (boost factor inner) = asked_terms segments inner
  asked_terms segments (constant score inner) = asked_terms segments inner
  asked_terms segments (disjunction_max tie_breaker queries) = queries_terms segments queries

  pub clauses_terms : List Segment → Clauses → List TermKey
  clauses_terms segments no_clause = []
  clauses_terms segments (clause occur inner clauses) = asked_terms segments inner ++ clauses_terms segments clauses

  pub queries_terms : List Segment → Queries → List TermKey
  queries_terms segments no_query = []
  queries_terms segments (query inner queries) = asked_terms segments inner ++ queries_terms segments queries
