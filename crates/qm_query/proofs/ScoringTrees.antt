-- Facts on scoring: where it is on, it is on in every node of a query's tree.
use Rattle.std.proofs.Common.{◌≡◌, ℕ, Box, Global, Bool, true, false, List, [], ◌∷◌, IfOk, Result, Ok, Err, length, refl, ap, subst, sym, ◌∙◌}
use Rattle.std.specs.Prelude.{◌&&◌, ◌==◌, if◌then◌else◌}
use Rattle.qm_postings.specs.declared.statistics.Bm25StatisticsProvider.{Ghosts}
use Rattle.qm_query.specs.Query.{Query, Subqueries, Disjuncts, all, none, term, phrase, phrase_prefix, boolean, boost, constant, disjunction_max, no_subquery}
use Rattle.qm_query.specs.Query.{subquery, no_disjunct, disjunct}
use Rattle.qm_query.specs.QueryScorers.{IsScoringIfEnabled, ScoresIfEnabled}
use Rattle.qm_query.specs.QueryTree.{clause_trees, disjunct_trees, full_prefix_tree, query_tree}
use Rattle.qm_query.specs.declared.enable_scoring.EnableScoring.{EnableScoring}
use Rattle.qm_query.specs.declared.enable_scoring.EnableScoring.TheVariants.{Enabled, Disabled}
use Rattle.qm_schema.specs.Term.{TermKey}
use Rattle.qm_schema.specs.declared.error.QueryError.{QueryError}
use Rattle.qm_weight.specs.Tree.{Tree, clauses_scoring, is_scoring}
use Rattle.qm_weight.specs.Weights.{prefix_alone, tree_of}
use Rattle.qm_weight.specs.declared.any_weight.AnyWeight.{AnyWeight}

-- both of two that are true
both : (a b : _) → a ≡ true → b ≡ true → a && b ≡ true
both a b first second = ap (λ x. x && b) first ∙ second

-- either of two trees in which scoring is on
either : (b : Bool) (s t : Tree) → is_scoring s ≡ true → is_scoring t ≡ true → is_scoring (if b then s else t) ≡ true
either true s t first second = first
either false s t first second = second

module _ {P : Type 0} (S : Ghosts P) where
  -- full terms have a weight
  full_scores : (searcher provider : _) (terms : List (ℕ × TermKey)) (prefix : ℕ × TermKey) (most : ℕ)
      → is_scoring (full_prefix_tree S (Enabled searcher provider) (record { terms = terms; prefix = prefix; max_expansions = most })) ≡ true
  full_scores searcher provider [] prefix most = refl
  full_scores searcher provider (t ∷ terms) prefix most = refl

  mutual
    query_scores : (searcher provider : _) (query : Query) → is_scoring (query_tree S (Enabled searcher provider) query) ≡ true
    query_scores searcher provider all = refl
    query_scores searcher provider none = refl
    query_scores searcher provider (term q) = refl
    query_scores searcher provider (phrase q) = refl
    query_scores searcher provider (phrase_prefix q) =
        either (length q.terms == 0) (prefix_alone q.prefix.1 q.max_expansions)
        (full_prefix_tree S (Enabled searcher provider) q) refl (full_scores searcher provider q.terms q.prefix q.max_expansions)
    query_scores searcher provider (boolean minimum clauses) = clauses_score searcher provider clauses
    query_scores searcher provider (boost factor inside) = query_scores searcher provider inside
    query_scores searcher provider (constant score inside) = query_scores searcher provider inside
    query_scores searcher provider (disjunction_max tie_breaker disjuncts) = disjuncts_score searcher provider disjuncts

    clauses_score : (searcher provider : _) (clauses : Subqueries) → clauses_scoring (clause_trees S (Enabled searcher provider) clauses) ≡ true
    clauses_score searcher provider no_subquery = refl
    clauses_score searcher provider (subquery occur query clauses) =
        both _ _ (query_scores searcher provider query) (clauses_score searcher provider clauses)

    disjuncts_score : (searcher provider : _) (disjuncts : Disjuncts) → clauses_scoring (disjunct_trees S (Enabled searcher provider) disjuncts) ≡ true
    disjuncts_score searcher provider no_disjunct = refl
    disjuncts_score searcher provider (disjunct query disjuncts) =
        both _ _ (query_scores searcher provider query) (disjuncts_score searcher provider disjuncts)

  pub scoring_if_enabled : (under : EnableScoring P) (query : Query) → IsScoringIfEnabled S under query
  scoring_if_enabled (Enabled searcher provider) query = λ on. query_scores searcher provider query
  scoring_if_enabled (Disabled schema searcher) query = λ on. cc

  -- so a weight that stands for the tree of a query scores where scoring is on
  pub scores-by_tree : (under : EnableScoring P) (query : Query) (tree : Tree) → tree ≡ query_tree S under query → ScoresIfEnabled under tree
  scores-by_tree under query tree is = subst (ScoresIfEnabled under) (sym is) (scoring_if_enabled under query)

  pub scores-made : (under : EnableScoring P) (query : Query) (made : Result (Box AnyWeight Global) QueryError)
      → IfOk made (λ w. tree_of w.value ≡ query_tree S under query) → IfOk made (λ w. ScoresIfEnabled under (tree_of w.value))
  scores-made under query (Ok w) is = scores-by_tree under query (tree_of w.value) is
  scores-made under query (Err error) is = tt
