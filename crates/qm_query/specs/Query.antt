-- What a query asks for, whatever segment it is asked of: a tree, to which every query comes down. Two
-- queries with the same tree are the same query.
use Rattle.std.specs.Prelude.{ℕ, ◌&&◌, if◌then◌else◌, nat_lt, List, [], ◌∷◌, length, map}
use Rattle.std.specs.List.{list_all}
use Rattle.std.proofs.Common.{Box, Global}
use Rattle.qm_schema.specs.Term.{TermKey}
use Rattle.qm_schema.specs.declared.occur.Occur.{Occur}
use Rattle.qm_schema.specs.declared.occur.Occur.TheVariants.{Should}
use Rattle.qm_schema.specs.declared.schema.option.IndexRecordOption.TheVariants.{WithFreqs}
use Rattle.qm_query.specs.declared.any_query.AnyQuery.{AnyQuery, All, Empty, Term, Phrase, PhrasePrefix, Boolean', Boost', ConstScore', DisjunctionMax'}
use Rattle.qm_query.specs.declared.any_query.AnyQuery.{Row_of-BooleanQuery-subqueries-3, end_of-BooleanQuery-subqueries-3, more_of-BooleanQuery-subqueries-3}
use Rattle.qm_query.specs.declared.any_query.AnyQuery.{Row_of-DisjunctionMaxQuery-disjuncts-1, end_of-DisjunctionMaxQuery-disjuncts-1}
use Rattle.qm_query.specs.declared.any_query.AnyQuery.{more_of-DisjunctionMaxQuery-disjuncts-1}
use Rattle.qm_query.specs.declared.boolean_query.BooleanQuery.{BooleanQuery}
use Rattle.qm_query.specs.declared.boost_query.BoostQuery.{BoostQuery}
use Rattle.qm_query.specs.declared.const_score_query.ConstScoreQuery.{ConstScoreQuery}
use Rattle.qm_query.specs.declared.disjunction_max_query.DisjunctionMaxQuery.{DisjunctionMaxQuery}
use Rattle.qm_query.specs.Occurs.{is_should}
use Rattle.qm_query.specs.Parts.{PhraseParts, PrefixParts, TermParts}

-- A query.
--     term      a term, and what is read of its postings
--     phrase      terms with their offsets, and how far they may stand from where they belong
--     phrase_prefix      the full terms, the prefix, and the most terms that it is expanded to
--     boolean      the least number of Should clauses, and the clauses
--     disjunction_max      the tie breaker in thousandths, and the disjuncts
mutual
  -- what a query asks for, as a tree
  pub data Query : Type 0 where
    all : Query
    none : Query
    term : TermParts → Query
    phrase : PhraseParts → Query
    phrase_prefix : PrefixParts → Query
    boolean : ℕ → Subqueries → Query
    boost : ℕ → Query → Query
    constant : ℕ → Query → Query
    disjunction_max : ℕ → Disjuncts → Query

  -- the clauses of a Boolean query, in order
  pub data Subqueries : Type 0 where
    no_subquery : Subqueries
    subquery : Occur → Query → Subqueries → Subqueries

  -- the disjuncts of a maximum query
  pub data Disjuncts : Type 0 where
    no_disjunct : Disjuncts
    disjunct : Query → Disjuncts → Disjuncts

abbrev mutual
  -- the query that a value of the program is
  pub query_of : AnyQuery → Query
  query_of (All q) = all
  query_of (Empty q) = none
  query_of (Term q) = term q
  query_of (Phrase q) = phrase q
  query_of (PhrasePrefix q) = phrase_prefix q
  query_of (Boolean' shape row minimum) = boolean minimum (row_subqueries row)
  query_of (Boost' p inner factor) = boost factor (query_of inner)
  query_of (ConstScore' p inner factor) = constant factor (query_of inner)
  query_of (DisjunctionMax' shape row combiner) = disjunction_max combiner.tie_breaker (row_disjuncts row)

  pub row_subqueries : {m : _} → Row_of-BooleanQuery-subqueries-3 m → Subqueries
  row_subqueries end_of-BooleanQuery-subqueries-3 = no_subquery
  row_subqueries (more_of-BooleanQuery-subqueries-3 occur p x more) = subquery occur (query_of x) (row_subqueries more)

  pub row_disjuncts : {m : _} → Row_of-DisjunctionMaxQuery-disjuncts-1 m → Disjuncts
  row_disjuncts end_of-DisjunctionMaxQuery-disjuncts-1 = no_disjunct
  row_disjuncts (more_of-DisjunctionMaxQuery-disjuncts-1 p x more) = disjunct (query_of x) (row_disjuncts more)

-- a query at a boost, as a word that no parameter hides
abbrev pub boosted : ℕ → Query → Query
boosted factor inside = boost factor inside

-- the same of lists of clauses and of disjuncts
abbrev pub subqueries : List (Occur × Query) → Subqueries
subqueries [] = no_subquery
subqueries (c ∷ cs) = subquery c.0 c.1 (subqueries cs)

abbrev pub clause_of : Occur × Box AnyQuery Global → Occur × Query
clause_of clause = (clause.0, query_of clause.1.value)

abbrev pub subqueries_of : List (Occur × Box AnyQuery Global) → Subqueries
subqueries_of clauses = subqueries (map clause_of clauses)

abbrev pub disjuncts : List Query → Disjuncts
disjuncts [] = no_disjunct
disjuncts (q ∷ qs) = disjunct q (disjuncts qs)

abbrev pub disjuncts_of : List (Box AnyQuery Global) → Disjuncts
disjuncts_of members = disjuncts (map (λ q. query_of q.value) members)

-- ---- the queries with queries below them

-- the clauses of a Boolean query, and the least number of its Should clauses that has to match
abbrev pub clauses_of : BooleanQuery → Subqueries
clauses_of q = subqueries_of q.subqueries.items

abbrev pub minimum_of : BooleanQuery → ℕ
minimum_of q = q.minimum_number_should_match

-- the same of a Boolean query
abbrev pub boolean_of : BooleanQuery → Query
boolean_of q = boolean (minimum_of q) (clauses_of q)

-- of a boost
abbrev pub boost_of : BoostQuery → Query
boost_of q = boost q.boost (query_of q.underlying.value)

-- of a constant
abbrev pub constant_of : ConstScoreQuery → Query
constant_of q = constant q.score (query_of q.underlying.value)

-- of a maximum query
abbrev pub disjunction_max_of : DisjunctionMaxQuery → Query
disjunction_max_of q = disjunction_max q.combiner.tie_breaker (disjuncts_of q.disjuncts.items)

-- ---- what builders make

-- the least number of Should clauses that has to match, where none is given: 1 where there are Should
-- clauses alone, and else 0; `occur` says how a clause occurs
abbrev pub default_minimum : {X : Type 0} → (X → Occur) → List X → ℕ
default_minimum occur clauses = if list_all (λ c. is_should (occur c)) clauses && nat_lt 0 (length clauses) then 1 else 0

-- the query of some clauses, where no minimum is given
abbrev pub boolean_of_clauses : List (Occur × Query) → Query
boolean_of_clauses clauses = boolean (default_minimum (λ c. c.0) clauses) (subqueries clauses)

-- queries as clauses that all occur in one way
abbrev pub each_as : Occur → List (Box AnyQuery Global) → List (Occur × Query)
each_as occur queries = map (λ q. (occur, query_of q.value)) queries

-- the Should clauses of some terms, of which frequencies are read
abbrev pub should_terms : List TermKey → List (Occur × Query)
should_terms terms = map (λ t. (Should, term (record { term = t; option = WithFreqs }))) terms
