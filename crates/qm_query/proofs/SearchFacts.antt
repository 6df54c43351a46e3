-- What a query comes down to over a searcher depends on the searcher alone, and not on where the references
-- to it lie; and no weight is refused with what an explanation alone is.
use Rattle.std.proofs.Common.{◌≡◌, ◌<◌, arith, ℕ, zero, suc, ℤ, Bool, true, false, ◌==◌, if◌then◌else◌, List, [], ◌∷◌, Option, is_some, slice_get}
use Rattle.std.proofs.Common.{Some, None, Result, Ok, Err, IfOk}
use Rattle.std.proofs.Common.{IfErr, IsTrue, length, map, refl, sym, subst, ap, ◌∙◌, inl, inr}
use Rattle.qm_postings.specs.Reading.{Reader}
use Rattle.qm_postings.specs.Statistics.{Searched}
use Rattle.qm_postings.specs.Segment.{Segment}
use Rattle.qm_postings.specs.contracts.searcher.SearcherBm25StatisticsProvider.TheImpl.{ghosts}
use Rattle.qm_postings.specs.declared.address.DocAddress.{DocAddress}
use Rattle.qm_postings.specs.declared.statistics.Bm25StatisticsProvider.{Ghosts}
use Rattle.qm_schema.specs.Schema.{FieldFacts}
use Rattle.qm_schema.specs.Term.{TermKey}
use Rattle.qm_schema.specs.declared.error.QueryError.{QueryError}
use Rattle.qm_schema.specs.declared.error.QueryError.TheVariants.{DoesNotMatch, NoPositions, NoSuchSegment, NotIndexed}
use Rattle.qm_schema.specs.declared.occur.Occur.TheVariants.{Should}
use Rattle.qm_weight.specs.Explanations.{IsExplained, IsExplainRefusal}
use Rattle.qm_weight.specs.Scorers.{IsRefusalOf}
use Rattle.qm_weight.specs.Tree as tree
use Rattle.qm_weight.specs.Tree.{LeavesFit, Tree, is_scoring}
use Rattle.qm_weight.specs.Weights.{placed_at, prefix_alone}
use Rattle.qm_query.specs.EnableScoring.{is_enabled, provider_of, schema_of}
use Rattle.qm_query.specs.Fields.{is_served, indexes_positions, phrase_field_refusal, prefix_field_refusal, refusal_without_index, refusal_without_positions}
use Rattle.qm_query.specs.Fields.{term_field_refusal}
use Rattle.qm_query.specs.Offsets.{first_field, bare_terms}
use Rattle.qm_query.specs.Query.{Query, Subqueries, Disjuncts, all, none, term, phrase, phrase_prefix, boolean, boost, constant, disjunction_max, no_subquery}
use Rattle.qm_query.specs.Query.{subquery, no_disjunct, disjunct}
use Rattle.qm_query.specs.QueryScorers.{FitsAtOne, QueryFits}
use Rattle.qm_query.specs.QueryTree.{clause_trees, disjunct_trees, if_scoring, leaf_weighing, query_tree, read_option}
use Rattle.qm_query.proofs.ScoringTrees.{scoring_if_enabled}
use Rattle.qm_query.specs.Searches.{IsCountOf, IsCountRefusal, IsExplainedIn, IsExplanationOf, IsUnexplained, IsUnexplainedIn, count_in, scoring_by, with_scores}
use Rattle.qm_query.specs.Searches.{without_scores}
use Rattle.qm_query.specs.TopDocs.{AreBestOf, AreTopDocsBy, FitsFor, IsRefusalFor, IsScoredFor, IsScoredIn, IsTopDocsRefusalBy, matching_in}
use Rattle.qm_query.specs.WeightRefusals.{IsByProvider, IsClauseRefused, IsDisjunctRefused, IsLeafRefusal, IsPrefixByProvider, IsRefused, IsWeightRefusal}
use Rattle.qm_query.specs.declared.enable_scoring.EnableScoring.{EnableScoring}
use Rattle.qm_query.specs.declared.enable_scoring.EnableScoring.TheVariants.{Enabled, Disabled}

-- ---- the same tree

module _ {P : Type 0} (S : Ghosts P) (u v : EnableScoring P) (on : is_enabled u ≡ is_enabled v)
    (weighs : (terms : List TermKey) → leaf_weighing S u terms ≡ leaf_weighing S v terms) where
  mutual
    pub same_tree : (q : Query) → query_tree S u q ≡ query_tree S v q
    same_tree all = refl
    same_tree none = refl
    same_tree (term q) = λ i. tree.term q.term (read_option (on i) q.option) (weighs (q.term ∷ []) i)
    same_tree (phrase q) = λ i. tree.phrase (map placed_at q.terms) q.slop (weighs (bare_terms q.terms) i)
    same_tree (phrase_prefix q) =
        λ i. if length q.terms == 0 then prefix_alone q.prefix.1 q.max_expansions else tree.phrase_prefix
        (map placed_at q.terms) (placed_at q.prefix) q.max_expansions (weighs (bare_terms q.terms) i)
    same_tree (boolean minimum clauses) = λ i. tree.boolean (on i) minimum tree.sum_of_scores (same_clauses clauses i)
    same_tree (boost factor inside) = λ i. if_scoring (on i) (tree.boost factor) (same_tree inside i)
    same_tree (constant score inside) = λ i. if_scoring (on i) (tree.constant score) (same_tree inside i)
    same_tree (disjunction_max tie_breaker disjuncts) = λ i. tree.boolean (on i) 1 (tree.disjunction_max tie_breaker) (same_disjuncts disjuncts i)

    same_clauses : (clauses : Subqueries) → clause_trees S u clauses ≡ clause_trees S v clauses
    same_clauses no_subquery = refl
    same_clauses (subquery occur query clauses) = λ i. tree.clause occur (same_tree query i) (same_clauses clauses i)

    same_disjuncts : (disjuncts : Disjuncts) → disjunct_trees S u disjuncts ≡ disjunct_trees S v disjuncts
    same_disjuncts no_disjunct = refl
    same_disjuncts (disjunct query disjuncts) = λ i. tree.clause Should (same_tree query i) (same_disjuncts disjuncts i)

-- ---- the same refusals

allowed_leaf : (due : Option QueryError) (by other : QueryError → Type 0) (error : QueryError) →
    (by error → other error) → IsLeafRefusal due by error → IsLeafRefusal due other error
allowed_leaf (Some e) by other error more refused = refused
allowed_leaf None by other error more refused = more refused

module _ {P : Type 0} (S : Ghosts P) (u v : EnableScoring P) (fields : schema_of u ≡ schema_of v)
    (asks : (terms : List TermKey) (error : QueryError) → IsByProvider S u terms error → IsByProvider S v terms error) where
  same_leaf : (due : List FieldFacts → Option QueryError) (by other : QueryError → Type 0) (error : QueryError) →
      (by error → other error) → IsLeafRefusal (due (schema_of u)) by error → IsLeafRefusal (due (schema_of v)) other error
  same_leaf due by other error more refused =
      allowed_leaf (due (schema_of v)) by other error more (subst (λ facts. IsLeafRefusal (due facts) by error) fields refused)

  mutual
    pub same_refusal : (q : Query) (error : QueryError) → IsRefused S u q error → IsRefused S v q error
    same_refusal all error refused = refused
    same_refusal none error refused = refused
    same_refusal (term q) error refused =
        same_leaf (λ facts. term_field_refusal facts q.term.field) (IsByProvider S u (q.term ∷ []))
        (IsByProvider S v (q.term ∷ [])) error (asks (q.term ∷ []) error) refused
    same_refusal (phrase q) error refused =
        same_leaf (λ facts. phrase_field_refusal facts (first_field (λ t. t.1) q.terms)) (IsByProvider S u (bare_terms q.terms))
        (IsByProvider S v (bare_terms q.terms)) error (asks (bare_terms q.terms) error) refused
    same_refusal (phrase_prefix q) error refused =
        same_leaf (λ facts. prefix_field_refusal facts q.terms q.prefix.1.field) (IsPrefixByProvider S u q.terms)
        (IsPrefixByProvider S v q.terms) error (λ by. (by.0, asks (bare_terms q.terms) error by.1)) refused
    same_refusal (boolean minimum clauses) error refused = same_clause_refusal clauses error refused
    same_refusal (boost factor inside) error refused = same_refusal inside error refused
    same_refusal (constant score inside) error refused = same_refusal inside error refused
    same_refusal (disjunction_max tie_breaker disjuncts) error refused = same_disjunct_refusal disjuncts error refused

    same_clause_refusal : (clauses : Subqueries) (error : QueryError) → IsClauseRefused S u clauses error → IsClauseRefused S v clauses error
    same_clause_refusal no_subquery error refused = refused
    same_clause_refusal (subquery occur query clauses) error (inl refused) = inl (same_refusal query error refused)
    same_clause_refusal (subquery occur query clauses) error (inr later) =
        inr (subst (λ facts. IsTrue (is_served facts query)) fields later.0, same_clause_refusal clauses error later.1)

    same_disjunct_refusal : (disjuncts : Disjuncts) (error : QueryError) → IsDisjunctRefused S u disjuncts error → IsDisjunctRefused S v disjuncts error
    same_disjunct_refusal no_disjunct error refused = refused
    same_disjunct_refusal (disjunct query disjuncts) error (inl refused) = inl (same_refusal query error refused)
    same_disjunct_refusal (disjunct query disjuncts) error (inr later) =
        inr (subst (λ facts. IsTrue (is_served facts query)) fields later.0, same_disjunct_refusal disjuncts error later.1)

  pub same_weight_refusal : (q : Query) (error : QueryError) → IsWeightRefusal S u q error → IsWeightRefusal S v q error
  same_weight_refusal q error (inl memory) = inl memory
  same_weight_refusal q error (inr refused) = inr (same_refusal q error refused)

-- ---- what no weight is refused with

abbrev pub IsOfWeights : QueryError → Type 0
IsOfWeights (DoesNotMatch d) = ⊥
IsOfWeights (NoSuchSegment ord) = ⊥
IsOfWeights error = Unit {0}

module _ (by : QueryError → Type 0) (error : QueryError) (asked : by error → IsOfWeights error) where
  no_index : (is_there : Bool) → IsLeafRefusal (if is_there then None else Some NotIndexed) by error → IsOfWeights error
  no_index true refused = asked refused
  no_index false refused = subst IsOfWeights (sym refused) tt

  no_positions : (are_there : Bool) → IsLeafRefusal (if are_there then None else Some NoPositions) by error → IsOfWeights error
  no_positions true refused = asked refused
  no_positions false refused = subst IsOfWeights (sym refused) tt

  of_index : (facts : Option FieldFacts) → IsLeafRefusal (refusal_without_index facts) by error → IsOfWeights error
  of_index None refused = subst IsOfWeights (sym refused) tt
  of_index (Some facts) refused = no_index (is_some facts.indexed) refused

  of_positions : (facts : Option FieldFacts) → IsLeafRefusal (refusal_without_positions facts) by error → IsOfWeights error
  of_positions None refused = subst IsOfWeights (sym refused) tt
  of_positions (Some facts) refused = no_positions (indexes_positions facts.indexed) refused

  of_prefix : (is_alone : Bool) (facts : Option FieldFacts) →
      IsLeafRefusal (if is_alone then refusal_without_index facts else refusal_without_positions facts) by error → IsOfWeights error
  of_prefix true facts refused = of_index facts refused
  of_prefix false facts refused = of_positions facts refused

module _ {P : Type 0} (S : Ghosts P) (u : EnableScoring P)
    (asked : (terms : List TermKey) (error : QueryError) → IsByProvider S u terms error → IsOfWeights error) where
  mutual
    refusal_of_weights : (q : Query) (error : QueryError) → IsRefused S u q error → IsOfWeights error
    refusal_of_weights all error refused = absurd refused
    refusal_of_weights none error refused = absurd refused
    refusal_of_weights (term q) error refused =
        of_index (IsByProvider S u (q.term ∷ [])) error (asked (q.term ∷ []) error) (slice_get (schema_of u) q.term.field) refused
    refusal_of_weights (phrase q) error refused =
        of_positions (IsByProvider S u (bare_terms q.terms)) error (asked (bare_terms q.terms) error)
        (slice_get (schema_of u) (first_field (λ t. t.1) q.terms)) refused
    refusal_of_weights (phrase_prefix q) error refused =
        of_prefix (IsPrefixByProvider S u q.terms) error (λ by. asked (bare_terms q.terms) error by.1)
        (length q.terms == 0) (slice_get (schema_of u) q.prefix.1.field) refused
    refusal_of_weights (boolean minimum clauses) error refused = clause_refusal_of_weights clauses error refused
    refusal_of_weights (boost factor inside) error refused = refusal_of_weights inside error refused
    refusal_of_weights (constant score inside) error refused = refusal_of_weights inside error refused
    refusal_of_weights (disjunction_max tie_breaker disjuncts) error refused = disjunct_refusal_of_weights disjuncts error refused

    clause_refusal_of_weights : (clauses : Subqueries) (error : QueryError) → IsClauseRefused S u clauses error → IsOfWeights error
    clause_refusal_of_weights no_subquery error refused = absurd refused
    clause_refusal_of_weights (subquery occur query clauses) error (inl refused) = refusal_of_weights query error refused
    clause_refusal_of_weights (subquery occur query clauses) error (inr later) = clause_refusal_of_weights clauses error later.1

    disjunct_refusal_of_weights : (disjuncts : Disjuncts) (error : QueryError) → IsDisjunctRefused S u disjuncts error → IsOfWeights error
    disjunct_refusal_of_weights no_disjunct error refused = absurd refused
    disjunct_refusal_of_weights (disjunct query disjuncts) error (inl refused) = refusal_of_weights query error refused
    disjunct_refusal_of_weights (disjunct query disjuncts) error (inr later) = disjunct_refusal_of_weights disjuncts error later.1

  weight_refusal_of_weights : (q : Query) (error : QueryError) → IsWeightRefusal S u q error → IsOfWeights error
  weight_refusal_of_weights q error (inl memory) = subst IsOfWeights (sym memory) tt
  weight_refusal_of_weights q error (inr refused) = refusal_of_weights q error refused

-- ---- counts

-- two values without a provider
module _ (S : Ghosts Searched) (searcher : Searched) (q : Query) where
  off_tree : (u : EnableScoring Searched) → provider_of u ≡ None → query_tree S u q ≡ query_tree S (without_scores searcher) q
  off_tree (Enabled s provider) off = cc
  off_tree (Disabled schema s) off = same_tree S (Disabled schema s) (without_scores searcher) refl (λ terms. refl) q

  off_refusal : (u : EnableScoring Searched) (error : QueryError) → provider_of u ≡ None →
      schema_of u ≡ searcher.schema → IsWeightRefusal S u q error → IsWeightRefusal S (without_scores searcher) q error
  off_refusal (Enabled s provider) error off fields refused = cc
  off_refusal (Disabled schema s) error off fields refused =
      same_weight_refusal S (Disabled schema s) (without_scores searcher) fields (λ terms e by. by) q error refused

  counts_tree : (r : Result ℕ QueryError) (t : Tree) → t ≡ query_tree S (without_scores searcher) q →
      IfOk r (λ n. n ≡ count_in t searcher.segments) → IfOk r (IsCountOf S searcher q)
  counts_tree (Ok n) t same counted = record { is = counted ∙ ap (λ u. count_in u searcher.segments) same }
  counts_tree (Err e) t same counted = counted

  counts_refusal : (r : Result ℕ QueryError) (t : Tree) → t ≡ query_tree S (without_scores searcher) q →
      IfErr r (IsRefusalOf t 1) → IfErr r (IsCountRefusal S searcher q)
  counts_refusal (Ok n) t same refused = refused
  counts_refusal (Err e) t same refused = record { refused = inr (subst (λ u. IsRefusalOf u 1 e) same refused) }

-- what a query's own weight counts, the query counts; and so it is refused
module _ (S : Ghosts Searched) (searcher : Searched) (under : EnableScoring Searched) (q : Query) (off : provider_of under ≡ None) where
  pub counted : (r : Result ℕ QueryError) (t : Tree) → t ≡ query_tree S under q →
      IfOk r (λ n. n ≡ count_in t searcher.segments) → IfOk r (IsCountOf S searcher q)
  counted r t same found = counts_tree S searcher q r t (same ∙ off_tree S searcher q under off) found

  pub count_refused : (r : Result ℕ QueryError) (t : Tree) → t ≡ query_tree S under q → IfErr r (IsRefusalOf t 1) → IfErr r (IsCountRefusal S searcher q)
  count_refused r t same refused = counts_refusal S searcher q r t (same ∙ off_tree S searcher q under off) refused

  pub count_fits : (t : Tree) → t ≡ query_tree S under q → FitsAtOne t → QueryFits S (without_scores searcher) q
  count_fits t same fits = subst FitsAtOne (same ∙ off_tree S searcher q under off) fits

  pub count_unweighed : (error : QueryError) → schema_of under ≡ searcher.schema → IsWeightRefusal S under q error → IsCountRefusal S searcher q error
  count_unweighed error fields refused = record { refused = inl (off_refusal S searcher q under error off fields refused) }

-- ---- explanations

-- two values with the same provider
module _ {P : Type 0} (S : Ghosts P) (given : P) (searcher : Searched) (q : Query) where
  on_tree : (u : EnableScoring P) → provider_of u ≡ Some given → query_tree S u q ≡ query_tree S (scoring_by given searcher) q
  on_tree (Enabled s provider) on =
      let here : provider.now ≡ given = cc in
      same_tree S (Enabled s provider) (scoring_by given searcher) refl
      (λ terms i. Some (record { weight = S.weight_of (here i) terms; norms = S.norms_of (here i); boost = 1 })) q
  on_tree (Disabled schema s) on = cc

  on_refusal : (u : EnableScoring P) (error : QueryError) → provider_of u ≡ Some given →
      schema_of u ≡ searcher.schema → IsWeightRefusal S u q error → IsWeightRefusal S (scoring_by given searcher) q error
  on_refusal (Enabled s provider) error on fields refused =
      let here : provider.now ≡ given = cc in
      same_weight_refusal S (Enabled s provider) (scoring_by given searcher) fields (λ terms e by. subst (λ p. S.may_refuse p terms e) here by) q error refused
  on_refusal (Disabled schema s) error on fields refused = cc

module _ (S : Ghosts Searched) (searcher : Searched) (q : Query) where
  explains_tree : (segment : Segment) (d : ℕ) (value : ℤ) (t : Tree) → t ≡ query_tree S (with_scores searcher) q →
      IsExplained t 1 segment d value → IsExplanationOf S searcher q segment d value
  explains_tree segment d value t same explained =
      let here = subst (λ u. IsExplained u 1 segment d value) same explained in
      record { is_match = here.is_match; is_score = here.is_score (scoring_if_enabled S (with_scores searcher) q refl) }

  unexplained_tree : (segment : Segment) (d : ℕ) (error : QueryError) →
      IsExplainRefusal (query_tree S (with_scores searcher) q) 1 segment d error → IsUnexplained S searcher q segment d error
  unexplained_tree segment d (DoesNotMatch e) refused = refused
  unexplained_tree segment d (NoSuchSegment ord) refused = absurd refused
  unexplained_tree segment d error refused = inr refused

  unweighed_tree : (segment : Segment) (d : ℕ) (error : QueryError) → IsOfWeights error →
      IsWeightRefusal S (with_scores searcher) q error → IsUnexplained S searcher q segment d error
  unweighed_tree segment d (DoesNotMatch e) kind refused = absurd kind
  unweighed_tree segment d (NoSuchSegment ord) kind refused = absurd kind
  unweighed_tree segment d error kind refused = inl refused

-- what a query's own weight explains, the query explains, in the segment that an address names; and so it
-- is refused
module _ (S : Ghosts Searched) (searcher : Searched) (under : EnableScoring Searched) (q : Query)
    (on : provider_of under ≡ Some searcher) (found : Option Reader) (reader : Reader) (there : found ≡ Some reader) (ord d : ℕ) where
  module _ {E : Type 0} (value : E → ℤ) (t : Tree) (same : t ≡ query_tree S under q) where
    pub explained : (r : Result E QueryError) → IfOk r (λ e. IsExplained t 1 reader.segment d (value e)) →
        IfOk r (λ e. IsExplainedIn S searcher q found d (value e))
    explained (Ok e) h = subst (λ o. IsExplainedIn S searcher q o d (value e)) (sym there)
        (explains_tree S searcher q reader.segment d (value e) t (same ∙ on_tree S searcher searcher q under on) h)
    explained (Err e) h = h

    pub unexplained : (r : Result E QueryError) → IfErr r (IsExplainRefusal t 1 reader.segment d) → IfErr r (IsUnexplainedIn S searcher q found ord d)
    unexplained (Ok e) h = h
    unexplained (Err e) h =
        subst (λ o. IsUnexplainedIn S searcher q o ord d e) (sym there)
        (unexplained_tree S searcher q reader.segment d e (subst (λ u. IsExplainRefusal u 1 reader.segment d e) (same ∙ on_tree S searcher searcher q under on) h))

  pub unweighed : (error : QueryError) → ((terms : List TermKey) (e : QueryError) → S.may_refuse searcher terms e → IsOfWeights e) →
      schema_of under ≡ searcher.schema → IsWeightRefusal S under q error → IsUnexplainedIn S searcher q found ord d error
  unweighed error asked fields refused =
      let here = on_refusal S searcher searcher q under error on fields refused in
      subst (λ o. IsUnexplainedIn S searcher q o ord d error) (sym there)
      (unweighed_tree S searcher q reader.segment d error (weight_refusal_of_weights S (with_scores searcher) asked q error here) here)

-- ---- the best documents

-- what a query's own weight finds best, the query does; and so it is refused
module _ {P : Type 0} (S : Ghosts P) (given : P) (searcher : Searched) (under : EnableScoring P) (q : Query) (on : provider_of under ≡ Some given) where
  module _ (t : Tree) (same : t ≡ query_tree S under q) where
    searched_tree : t ≡ query_tree S (scoring_by given searcher) q
    searched_tree = same ∙ on_tree S given searcher q under on

    searched_scores : IsTrue (is_scoring t)
    searched_scores = subst (λ u. IsTrue (is_scoring u)) (sym searched_tree) (scoring_if_enabled S (scoring_by given searcher) q refl)

    pub found_best : {V : Type 0} (items : V → List (ℤ × DocAddress)) (k : ℕ) (r : Result V QueryError) →
        IfOk r (λ v. IsTrue (is_scoring t) → AreBestOf k t searcher.segments (items v)) → IfOk r (λ v. AreTopDocsBy S given searcher q k (items v))
    found_best items k (Ok v) found = record { are = subst (λ u. AreBestOf k u searcher.segments (items v)) searched_tree (found searched_scores) }
    found_best items k (Err e) found = found

    pub scored_for : {V : Type 0} (items : V → ℕ) (scored : V → ℕ) (r : Result V QueryError) →
        IfOk r (λ v. IsScoredIn t searcher.segments (items v) (scored v)) → IfOk r (λ v. IsScoredFor S given searcher q (items v) (scored v))
    scored_for items scored (Ok v) made =
        record { at_least = made.at_least; at_most = omega (arith, made.at_most, ap (λ u. matching_in u searcher.segments) searched_tree) }
    scored_for items scored (Err e) made = made

    pub best_fits : (k : ℕ) → FitsAtOne t → FitsFor S (scoring_by given searcher) q k
    best_fits zero fits = subst LeavesFit searched_tree fits.leaves
    best_fits (suc k) fits = subst FitsAtOne searched_tree fits

    -- .. where none is wanted
    pub leaves_fit : (k : ℕ) → k ≡ 0 → LeavesFit t → FitsFor S (scoring_by given searcher) q k
    leaves_fit zero zero_is leaves = subst LeavesFit searched_tree leaves
    leaves_fit (suc k) zero_is leaves = absurd (omega (arith, zero_is))

    refused_for : (k : ℕ) (e : QueryError) → 0 < k → IsRefusalOf t 1 e → IsRefusalFor S (scoring_by given searcher) q k e
    refused_for zero e some refused = absurd (omega (arith, some))
    refused_for (suc k) e some refused = inr (subst (λ u. IsRefusalOf u 1 e) searched_tree refused)

    pub best_refused : {V : Type 0} (k : ℕ) (r : Result V QueryError) → 0 < k → IfErr r (IsRefusalOf t 1) → IfErr r (IsTopDocsRefusalBy S given searcher q k)
    best_refused k (Ok v) some refused = refused
    best_refused k (Err e) some refused = record { refused = refused_for k e some refused }

  unweighed_for : (k : ℕ) (error : QueryError) → IsWeightRefusal S (scoring_by given searcher) q error → IsRefusalFor S (scoring_by given searcher) q k error
  unweighed_for zero error refused = refused
  unweighed_for (suc k) error refused = inl refused

  pub best_unweighed : (k : ℕ) (error : QueryError) → schema_of under ≡ searcher.schema → IsWeightRefusal S under q error →
      IsTopDocsRefusalBy S given searcher q k error
  best_unweighed k error fields refused = record { refused = unweighed_for k error (on_refusal S given searcher q under error on fields refused) }

-- ---- what holds anyway

pub if_ok_anyway : {A E P : Type 0} (r : Result A E) → P → IfOk r (λ a. P)
if_ok_anyway (Ok a) holds = holds
if_ok_anyway (Err e) holds = tt

pub if_ok_then : {A E P Q : Type 0} (r : Result A E) → (P → Q) → IfOk r (λ a. P) → IfOk r (λ a. Q)
if_ok_then (Ok a) more holds = more holds
if_ok_then (Err e) more holds = tt

-- ---- the searcher as the provider

abbrev pub searcher_ghosts : Ghosts Searched
searcher_ghosts = ghosts

-- it refuses with what weights are refused with
pub searcher_asks : (searcher : Searched) (terms : List TermKey) (error : QueryError) → searcher_ghosts.may_refuse searcher terms error → IsOfWeights error
searcher_asks searcher terms error by = subst IsOfWeights (sym by.0) tt
