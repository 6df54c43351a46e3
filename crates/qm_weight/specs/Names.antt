-- Which terms of a segment a tree names: its own, and of a prefix those that it is expanded to there; and whether it asks
-- where they stand.
use Rattle.std.specs.Prelude.{◌≡◌, Bool, false, true, ◌||◌, List, [], ◌∷◌, All}
use Rattle.qm_postings.specs.Segment.{Segment}
use Rattle.qm_schema.specs.Term.{TermKey}
use Rattle.qm_weight.specs.Tree.{Tree, Clauses, Placed, all, none, term, phrase, phrase_prefix, boolean, boost, constant, clause, no_clause, expansions}

-- the terms of a phrase are wanted
abbrev pub AreWanted : (TermKey → Bool) → List Placed → Type 0
AreWanted wanted terms = All (λ t. wanted t.term ≡ true) terms

abbrev mutual
  -- each term that the tree names is wanted
  pub Names : (TermKey → Bool) → Segment → Tree → Type 0
  Names wanted s all = Unit {0}
  Names wanted s none = Unit {0}
  Names wanted s (term t option weight) = wanted t ≡ true
  Names wanted s (phrase terms slop weight) = AreWanted wanted terms
  Names wanted s (phrase_prefix full prefix most weight) = AreWanted wanted full × All (λ t. wanted t ≡ true) (expansions s prefix.term most)
  Names wanted s (boolean scoring minimum combiner clauses) = ClausesName wanted s clauses
  Names wanted s (boost k inside) = Names wanted s inside
  Names wanted s (constant k inside) = Names wanted s inside

  pub ClausesName : (TermKey → Bool) → Segment → Clauses → Type 0
  ClausesName wanted s no_clause = Unit {0}
  ClausesName wanted s (clause occur inside clauses) = Names wanted s inside × ClausesName wanted s clauses

-- ---- positions

abbrev mutual
  -- a tree without a phrase, and without a prefix behind full terms, asks for no positions
  pub asks_places : Tree → Bool
  asks_places all = false
  asks_places none = false
  asks_places (term t option weight) = false
  asks_places (phrase terms slop weight) = true
  asks_places (phrase_prefix [] prefix most weight) = false
  asks_places (phrase_prefix (t ∷ full) prefix most weight) = true
  asks_places (boolean scoring minimum combiner clauses) = clauses_ask_places clauses
  asks_places (boost k inside) = asks_places inside
  asks_places (constant k inside) = asks_places inside

  pub clauses_ask_places : Clauses → Bool
  clauses_ask_places no_clause = false
  clauses_ask_places (clause occur inside clauses) = asks_places inside || clauses_ask_places clauses
