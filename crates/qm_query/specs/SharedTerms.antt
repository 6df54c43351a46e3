-- The weight of clauses that are terms: it keeps the norms of the provider once, for all of them.
use Rattle.std.specs.Prelude.{◌≡◌, ℕ, All, List}
use Rattle.std.specs.declared.boxed.Box.{Box}
use Rattle.std.proofs.Common.{replicate}
use Rattle.qm_postings.specs.declared.statistics.Bm25StatisticsProvider.{Ghosts}
use Rattle.qm_schema.specs.declared.occur.Occur.{Occur}
use Rattle.qm_schema.specs.Term.{TermKey}
use Rattle.qm_scorer.specs.declared.any_combiner.AnyCombiner.{AnyCombiner}
use Rattle.qm_weight.specs.Tree.{Combiner, Tree, boolean}
use Rattle.qm_weight.specs.Weights.{clause_tree, combiner_of, shared_weighing, term_clauses, tree_of}
use Rattle.qm_weight.specs.declared.any_weight.AnyWeight.{AnyWeight}
use Rattle.qm_weight.specs.declared.terms_weight.TermClause.{TermClause}
use Rattle.qm_query.specs.EnableScoring.{is_enabled}
use Rattle.qm_query.specs.Query.{Query}
use Rattle.qm_query.specs.QueryTree.{leaf_weighing, query_tree}
use Rattle.qm_query.specs.declared.any_query.AnyQuery.{AnyQuery, Term}
use Rattle.qm_query.specs.declared.enable_scoring.EnableScoring.{EnableScoring}
use Rattle.qm_query.specs.declared.enable_scoring.EnableScoring.TheVariants.{Enabled, Disabled}

abbrev pub IsTermQuery : AnyQuery → Type 0
IsTermQuery (Term q) = Unit {0}
IsTermQuery q = ⊥

-- disjuncts that are terms
abbrev pub AreTermQueries : {Z : Type 0} → List (Box AnyQuery Z) → Type 0
AreTermQueries queries = All (λ q. IsTermQuery q.value) queries

-- clauses that are terms
abbrev pub AreTermClauses : {Z : Type 0} → List (Occur × Box AnyQuery Z) → Type 0
AreTermClauses clauses = All (λ c. IsTermQuery c.1.value) clauses

module _ {P : Type 0} (S : Ghosts P) where
  -- the norms of the provider; where scoring is off none is asked, and no norm counts
  abbrev pub shared_norms : EnableScoring P → List ℕ
  shared_norms (Enabled searcher provider) = S.norms_of provider.now
  shared_norms (Disabled schema searcher) = replicate 256 0

module _ {P : Type 0} (S : Ghosts P) (under : EnableScoring P) where
  -- the tree of one of the clauses
  abbrev pub shared_clause_tree : TermClause → Tree
  shared_clause_tree c = clause_tree (is_enabled under) (shared_norms S under) c

  -- one of them stands for a query
  abbrev pub StandsForQuery : Query → TermClause → Type 0
  StandsForQuery q c = shared_clause_tree c ≡ query_tree S under q

  -- beside those norms a weight weighs as terms of a leaf do
  abbrev pub WeighsTerms : List TermKey → ℕ → Type 0
  WeighsTerms ts weight = shared_weighing (is_enabled under) (shared_norms S under) weight ≡ leaf_weighing S under ts

  -- of all of them together
  abbrev pub shared_tree : ℕ → Combiner → List TermClause → Tree
  shared_tree minimum combiner clauses = boolean (is_enabled under) minimum combiner (term_clauses (is_enabled under) (shared_norms S under) clauses)

  -- a weight's tree is that one
  abbrev pub JoinsTerms : ℕ → AnyCombiner → List TermClause → AnyWeight → Type 0
  JoinsTerms minimum combiner clauses weight = tree_of weight ≡ shared_tree minimum (combiner_of combiner) clauses
