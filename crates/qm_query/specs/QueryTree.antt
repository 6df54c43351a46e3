-- The tree that the weight of a query stands for, by the query and by what the weight is built under: the
-- provider says what the terms of each leaf weigh together. With scoring off no provider is asked, boosts
-- and constants are left away, and of the postings of a term the documents alone are read.
use Rattle.std.specs.Prelude.{Bool, true, false, ◌==◌, if◌then◌else◌, List, [], ◌∷◌, Option, None, Some, length, map}
use Rattle.qm_postings.specs.declared.statistics.Bm25StatisticsProvider.{Ghosts}
use Rattle.qm_schema.specs.Term.{TermKey}
use Rattle.qm_schema.specs.declared.occur.Occur.TheVariants.{Should}
use Rattle.qm_schema.specs.declared.schema.option.IndexRecordOption.{IndexRecordOption}
use Rattle.qm_schema.specs.declared.schema.option.IndexRecordOption.TheVariants.{Basic}
use Rattle.qm_term.specs.Bm25.{Weighing}
use Rattle.qm_weight.specs.Tree as tree
use Rattle.qm_weight.specs.Tree.{Clauses, Tree}
use Rattle.qm_weight.specs.Weights.{placed_at, prefix_alone}
use Rattle.qm_query.specs.EnableScoring.{is_enabled}
use Rattle.qm_query.specs.Offsets.{bare_terms}
use Rattle.qm_query.specs.Parts.{PrefixParts}
use Rattle.qm_query.specs.Query.{Query, Subqueries, Disjuncts, all, none, term, phrase, phrase_prefix, boolean, boost, constant, disjunction_max, no_subquery}
use Rattle.qm_query.specs.Query.{subquery, no_disjunct, disjunct}
use Rattle.qm_query.specs.declared.enable_scoring.EnableScoring.{EnableScoring}
use Rattle.qm_query.specs.declared.enable_scoring.EnableScoring.TheVariants.{Enabled, Disabled}

-- what is read of the postings of a term that was asked for so
abbrev pub read_option : Bool → IndexRecordOption → IndexRecordOption
read_option true option = option
read_option false option = Basic

-- a node of the tree that is there where scoring is on alone
abbrev pub if_scoring : Bool → (Tree → Tree) → Tree → Tree
if_scoring true node inside = node inside
if_scoring false node inside = inside

module _ {P : Type 0} (S : Ghosts P) where
  -- what terms weigh together, with a boost of 1; nothing where scoring is off
  abbrev pub leaf_weighing : EnableScoring P → List TermKey → Option Weighing
  leaf_weighing (Enabled searcher provider) terms =
      Some (record { weight = S.weight_of provider.now terms; norms = S.norms_of provider.now; boost = 1 })
  leaf_weighing (Disabled schema searcher) terms = None

module _ {P : Type 0} (S : Ghosts P) (under : EnableScoring P) where
  -- a phrase prefix weighs what its full terms do
  abbrev pub full_prefix_tree : PrefixParts → Tree
  full_prefix_tree q = tree.phrase_prefix (map placed_at q.terms) (placed_at q.prefix) q.max_expansions (leaf_weighing S under (bare_terms q.terms))

  -- without full terms it is a prefix alone, which weighs nothing
  abbrev pub prefix_query_tree : PrefixParts → Tree
  prefix_query_tree q = if length q.terms == 0 then prefix_alone q.prefix.1 q.max_expansions else full_prefix_tree q

  abbrev mutual
    -- the tree of a query's weight
    pub query_tree : Query → Tree
    query_tree all = tree.all
    query_tree none = tree.none
    query_tree (term q) = tree.term q.term (read_option (is_enabled under) q.option) (leaf_weighing S under (q.term ∷ []))
    query_tree (phrase q) = tree.phrase (map placed_at q.terms) q.slop (leaf_weighing S under (bare_terms q.terms))
    query_tree (phrase_prefix q) = prefix_query_tree q
    query_tree (boolean minimum clauses) = tree.boolean (is_enabled under) minimum tree.sum_of_scores (clause_trees clauses)
    query_tree (boost factor inside) = if_scoring (is_enabled under) (tree.boost factor) (query_tree inside)
    query_tree (constant score inside) = if_scoring (is_enabled under) (tree.constant score) (query_tree inside)
    query_tree (disjunction_max tie_breaker disjuncts) = tree.boolean (is_enabled under) 1 (tree.disjunction_max tie_breaker) (disjunct_trees disjuncts)

    -- the trees of a Boolean's clauses
    pub clause_trees : Subqueries → Clauses
    clause_trees no_subquery = tree.no_clause
    clause_trees (subquery occur query clauses) = tree.clause occur (query_tree query) (clause_trees clauses)

    -- those of a query that takes the best of several: Should clauses of which one has to match, under its combiner
    pub disjunct_trees : Disjuncts → Clauses
    disjunct_trees no_disjunct = tree.no_clause
    disjunct_trees (disjunct query disjuncts) = tree.clause Should (query_tree query) (disjunct_trees disjuncts)
