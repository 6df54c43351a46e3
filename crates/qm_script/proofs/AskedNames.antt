-- The trees of queries name no terms but those that are asked for, where these are wanted.
use Rattle.std.proofs.Common.{◌≡◌, ℕ, ◌+◌, ◌==◌, Bool, true, false, if◌then◌else◌, nat_lt, List, [], ◌∷◌, ◌++◌, All, length, map, Ok, IfOk, sym, subst}
use Rattle.std.specs.List.{AllByRecursion, enumerate_from}
use Rattle.std.proofs.lemmas.List.Concat.{flat_map-cons}
use Rattle.std.proofs.lemmas.List.Elements.{All-append, All-contains, All-cons, All-head, All-nil, All-tail}
use Rattle.std.proofs.lemmas.Map.Views.{All-from_any, Contains-from_any}
use Rattle.qm_index.specs.Parts.{AreParts}
use Rattle.qm_postings.specs.Segment.{Segment}
use Rattle.qm_postings.specs.Statistics.{Searched}
use Rattle.qm_postings.specs.contracts.searcher.SearcherBm25StatisticsProvider.TheImpl.{ghosts}
use Rattle.qm_query.specs.EnableScoring.{is_enabled}
use Rattle.qm_query.specs.Offsets.{row_refusal, with_two}
use Rattle.qm_query.specs.Parts.{PrefixParts}
use Rattle.qm_query.specs.Query as query
use Rattle.qm_query.specs.Query.{Query, Subqueries, Disjuncts}
use Rattle.qm_query.specs.QueryTree.{clause_trees, disjunct_trees, full_prefix_tree, if_scoring}
use Rattle.qm_query.specs.declared.enable_scoring.EnableScoring.{EnableScoring}
use Rattle.qm_schema.specs.Term.{TermKey, same_term, term_eq_laws}
use Rattle.qm_schema.specs.declared.error.QueryError.TheVariants.{TieBreaker}
use Rattle.birchagain.specs.Body.{body_term}
use Rattle.qm_script.specs.Asked.{asked, clauses_asked, disjuncts_asked, prefix_parts}
use Rattle.qm_script.specs.AskedTerms.{all_expansions, asked_terms, clauses_terms, last_expansions, queries_terms}
use Rattle.qm_script.specs.Script as language
use Rattle.qm_script.specs.Script.{no_clause, clause, no_query}
use Rattle.qm_script.specs.Under.{tree_of}
use Rattle.qm_script.specs.Wanted.{is_wanted}
use Rattle.qm_weight.specs.Names.{AreWanted, ClausesName, Names}
use Rattle.qm_weight.specs.Tree as tree
use Rattle.qm_weight.specs.Tree.{Tree, expansions}
use Rattle.qm_weight.specs.Weights.{placed_at, prefix_alone}
use Rattle.qm_script.proofs.AskedTrees.{bind-ok, test-ok, unless-ok}
use Rattle.qm_script.proofs.PartExpansions.{expansions-parts, only-one}

abbrev pub AreAllWanted : (TermKey → Bool) → List TermKey → Type 0
AreAllWanted wanted terms = All (λ t. wanted t ≡ true) terms

module _ (wanted : TermKey → Bool) where
  abbrev IsWanted : TermKey → Type 0
  IsWanted t = wanted t ≡ true

  left-wanted : (xs ys : List TermKey) → AreAllWanted wanted (xs ++ ys) → AreAllWanted wanted xs
  left-wanted [] ys all = All-nil IsWanted
  left-wanted (x ∷ xs) ys all = All-cons IsWanted x xs (All-head IsWanted x (xs ++ ys) all) (left-wanted xs ys (All-tail IsWanted x (xs ++ ys) all))

  right-wanted : (xs ys : List TermKey) → AreAllWanted wanted (xs ++ ys) → AreAllWanted wanted ys
  right-wanted [] ys all = all
  right-wanted (x ∷ xs) ys all = right-wanted xs ys (All-tail IsWanted x (xs ++ ys) all)

  -- ---- other segments

  -- where the expansions in some segments are wanted, so are those in others
  abbrev pub Covers : List Segment → List Segment → Type 0
  Covers segments others = (prefix : TermKey) (most : ℕ) → AreAllWanted wanted (all_expansions segments prefix most) →
      AreAllWanted wanted (all_expansions others prefix most)

  module _ (segments others : List Segment) (covers : Covers segments others) where
    last-covered : (most : ℕ) (words : List (List ℕ)) → AreAllWanted wanted (last_expansions segments most words) →
        AreAllWanted wanted (last_expansions others most words)
    last-covered most [] all = All-nil IsWanted
    last-covered most (w ∷ []) all = covers (body_term w) most all
    last-covered most (w ∷ v ∷ words) all = last-covered most (v ∷ words) all

    mutual
      pub asked-covered : (q : language.Query) → AreAllWanted wanted (asked_terms segments q) → AreAllWanted wanted (asked_terms others q)
      asked-covered language.all all = All-nil IsWanted
      asked-covered language.none all = All-nil IsWanted
      asked-covered (language.term word) all = all
      asked-covered (language.phrase slop words) all = all
      asked-covered (language.phrase_prefix most words) all =
          All-append IsWanted (map body_term words) (last_expansions others most words)
          (left-wanted (map body_term words) (last_expansions segments most words) all)
          (last-covered most words (right-wanted (map body_term words) (last_expansions segments most words) all))
      asked-covered (language.boolean minimum clauses) all = clauses-covered clauses all
      asked-covered (language.boost factor inner) all = asked-covered inner all
      asked-covered (language.constant score inner) all = asked-covered inner all
      asked-covered (language.disjunction_max tie_breaker queries) all = queries-covered queries all

      clauses-covered : (cs : language.Clauses) → AreAllWanted wanted (clauses_terms segments cs) → AreAllWanted wanted (clauses_terms others cs)
      clauses-covered no_clause all = All-nil IsWanted
      clauses-covered (clause occur inner cs) all =
          All-append IsWanted (asked_terms others inner) (clauses_terms others cs)
          (asked-covered inner (left-wanted (asked_terms segments inner) (clauses_terms segments cs) all))
          (clauses-covered cs (right-wanted (asked_terms segments inner) (clauses_terms segments cs) all))

      queries-covered : (ds : language.Queries) → AreAllWanted wanted (queries_terms segments ds) → AreAllWanted wanted (queries_terms others ds)
      queries-covered no_query all = All-nil IsWanted
      queries-covered (language.query inner ds) all =
          All-append IsWanted (asked_terms others inner) (queries_terms others ds)
          (asked-covered inner (left-wanted (asked_terms segments inner) (queries_terms segments ds) all))
          (queries-covered ds (right-wanted (asked_terms segments inner) (queries_terms segments ds) all))

  all-among : (xs ys : List TermKey) → ((t : TermKey) → is_wanted ys t ≡ true → is_wanted xs t ≡ true) → AreAllWanted wanted xs → AreAllWanted wanted ys
  all-among xs ys among all =
      All-from_any term_eq_laws IsWanted ys (λ t found.
      All-contains IsWanted xs t all (Contains-from_any (λ x y. (same_term x y).0) t xs (among t found)))

  -- the open segment in place of its parts
  pub covers-whole : (ended : List Segment) (whole : Segment) (parts : List Segment) → AreParts whole parts → Covers (ended ++ parts) (ended ++ whole ∷ [])
  covers-whole [] whole parts are prefix most all =
      all-among (all_expansions parts prefix most) (all_expansions (whole ∷ []) prefix most)
      (λ t found. expansions-parts whole parts are prefix most t (only-one whole prefix most t found)) all
  covers-whole (s ∷ ended) whole parts are prefix most all =
      let split = subst (AreAllWanted wanted) (flat_map-cons (λ u. expansions u prefix most) s (ended ++ parts)) all in
      subst (AreAllWanted wanted) (sym (flat_map-cons (λ u. expansions u prefix most) s (ended ++ whole ∷ [])))
      (All-append IsWanted (expansions s prefix most) (all_expansions (ended ++ whole ∷ []) prefix most)
      (left-wanted (expansions s prefix most) (all_expansions (ended ++ parts) prefix most) split)
      (covers-whole ended whole parts are prefix most (right-wanted (expansions s prefix most) (all_expansions (ended ++ parts) prefix most) split)))

  -- ---- the tree of a query

  module _ (enable : EnableScoring Searched) (segment : Segment) where
    abbrev AreNamed : Query → Type 0
    AreNamed q = Names wanted segment (tree_of enable q)

    abbrev ClausesNamed : Subqueries → Type 0
    ClausesNamed cs = ClausesName wanted segment (clause_trees ghosts enable cs)

    abbrev DisjunctsNamed : Disjuncts → Type 0
    DisjunctsNamed ds = ClausesName wanted segment (disjunct_trees ghosts enable ds)

    if_scoring-named : (on : Bool) (node : Tree → Tree) (inside : Tree) → (Names wanted segment inside → Names wanted segment (node inside)) →
        Names wanted segment inside → Names wanted segment (if_scoring on node inside)
    if_scoring-named true node inside keeps named = keeps named
    if_scoring-named false node inside keeps named = named

    either-named : (b : Bool) (x y : Tree) → Names wanted segment x → Names wanted segment y → Names wanted segment (if b then x else y)
    either-named true x y here there = here
    either-named false x y here there = there

    words-wanted : (k : ℕ) (words : List (List ℕ)) → AreAllWanted wanted (map body_term words) →
        AreWanted wanted (map placed_at (enumerate_from k (map body_term words)))
    words-wanted k [] all = All-nil (λ t. wanted t.term ≡ true)
    words-wanted k (w ∷ words) all =
        All-cons (λ t. wanted t.term ≡ true) (placed_at (k, body_term w)) (map placed_at (enumerate_from (k + 1) (map body_term words)))
        (All-head IsWanted (body_term w) (map body_term words) all) (words-wanted (k + 1) words (All-tail IsWanted (body_term w) (map body_term words) all))

    -- the words before the last, which stand in full
    full-wanted : (most j k : ℕ) (w : List ℕ) (words : List (List ℕ)) → AreAllWanted wanted (map body_term (w ∷ words)) →
        AreWanted wanted (map placed_at (prefix_parts most (j, body_term w) (enumerate_from k (map body_term words))).terms)
    full-wanted most j k w [] all = All-nil (λ t. wanted t.term ≡ true)
    full-wanted most j k w (v ∷ words) all =
        All-cons (λ t. wanted t.term ≡ true) (placed_at (j, body_term w))
        (map placed_at (prefix_parts most (k, body_term v) (enumerate_from (k + 1) (map body_term words))).terms)
        (All-head IsWanted (body_term w) (map body_term (v ∷ words)) all)
        (full-wanted most k (k + 1) v words (All-tail IsWanted (body_term w) (map body_term (v ∷ words)) all))

    module _ (segments : List Segment) (covers : (prefix : TermKey) (most : ℕ) → AreAllWanted wanted (all_expansions segments prefix most) →
        AreAllWanted wanted (expansions segment prefix most)) where
      last-wanted : (most j k : ℕ) (w : List ℕ) (words : List (List ℕ)) → AreAllWanted wanted (last_expansions segments most (w ∷ words)) →
          (let p = prefix_parts most (j, body_term w) (enumerate_from k (map body_term words)) in AreAllWanted wanted (expansions segment p.prefix.1 p.max_expansions))
      last-wanted most j k w [] all = covers (body_term w) most all
      last-wanted most j k w (v ∷ words) all = last-wanted most k (k + 1) v words all

      -- with full terms or without
      prefix-named : (p : PrefixParts) → AreWanted wanted (map placed_at p.terms) → AreAllWanted wanted (expansions segment p.prefix.1 p.max_expansions) →
          AreNamed (query.phrase_prefix p)
      prefix-named p full last =
          either-named (length p.terms == 0) (prefix_alone p.prefix.1 p.max_expansions) (full_prefix_tree ghosts enable p)
          (All-nil (λ t. wanted t.term ≡ true), last) (full, last)

      mutual
        pub asked-named : (q : language.Query) → AreAllWanted wanted (asked_terms segments q) → IfOk (asked q) AreNamed
        asked-named language.all all = tt
        asked-named language.none all = tt
        asked-named (language.term word) all = All-head IsWanted (body_term word) [] all
        asked-named (language.phrase slop words) all = unless-ok AreNamed (with_two (map body_term words) (row_refusal (map body_term words)))
            (query.phrase (record { terms = enumerate_from 0 (map body_term words); slop = slop })) (words-wanted 0 words all)
        asked-named (language.phrase_prefix most []) all = tt
        asked-named (language.phrase_prefix most (w ∷ words)) all =
            let terms = map body_term (w ∷ words) in
            let last = last_expansions segments most (w ∷ words) in
            unless-ok AreNamed (row_refusal terms) (query.phrase_prefix (prefix_parts most (0, body_term w) (enumerate_from 1 (map body_term words)))) (prefix-named (prefix_parts most (0, body_term w) (enumerate_from 1 (map body_term words)))
            (full-wanted most 0 1 w words (left-wanted terms last all)) (last-wanted most 0 1 w words (right-wanted terms last all)))
        asked-named (language.boolean minimum clauses) all =
            bind-ok (λ cs. ClausesNamed (query.subqueries cs)) AreNamed (clauses_asked clauses) _ (clauses-named clauses all) (λ cs h. h)
        asked-named (language.boost factor inner) all =
            bind-ok AreNamed AreNamed (asked inner) _ (asked-named inner all)
            (λ q h. if_scoring-named (is_enabled enable) (tree.boost _) (tree_of enable q) (λ k. k) h)
        asked-named (language.constant score inner) all = bind-ok AreNamed AreNamed (asked inner) _ (asked-named inner all)
            (λ q h. if_scoring-named (is_enabled enable) (tree.constant _) (tree_of enable q) (λ k. k) h)
        asked-named (language.disjunction_max tie_breaker queries) all = bind-ok (λ qs. DisjunctsNamed (query.disjuncts qs)) AreNamed
            (disjuncts_asked queries) _ (queries-named queries all) (λ qs h. test-ok AreNamed (nat_lt 1000 tie_breaker) TieBreaker _ h)

        clauses-named : (cs : language.Clauses) → AreAllWanted wanted (clauses_terms segments cs) → IfOk (clauses_asked cs) (λ qs. ClausesNamed (query.subqueries qs))
        clauses-named no_clause all = tt
        clauses-named (clause occur inner cs) all =
            bind-ok AreNamed (λ qs. ClausesNamed (query.subqueries qs)) (asked inner) _
            (asked-named inner (left-wanted (asked_terms segments inner) (clauses_terms segments cs) all)) (λ q here.
            bind-ok (λ qs. ClausesNamed (query.subqueries qs)) (λ qs. ClausesNamed (query.subqueries qs)) (clauses_asked cs) _
            (clauses-named cs (right-wanted (asked_terms segments inner) (clauses_terms segments cs) all)) (λ qs others. (here, others)))

        queries-named : (ds : language.Queries) → AreAllWanted wanted (queries_terms segments ds) → IfOk (disjuncts_asked ds) (λ qs. DisjunctsNamed (query.disjuncts qs))
        queries-named no_query all = tt
        queries-named (language.query inner ds) all =
            bind-ok AreNamed (λ qs. DisjunctsNamed (query.disjuncts qs)) (asked inner) _
            (asked-named inner (left-wanted (asked_terms segments inner) (queries_terms segments ds) all)) (λ q here.
            bind-ok (λ qs. DisjunctsNamed (query.disjuncts qs)) (λ qs. DisjunctsNamed (query.disjuncts qs)) (disjuncts_asked ds) _
            (queries-named ds (right-wanted (asked_terms segments inner) (queries_terms segments ds) all)) (λ qs others. (here, others)))

-- ---- each of some segments

module _ (wanted : TermKey → Bool) (enable : EnableScoring Searched) (q : language.Query) (query : Query) (built : asked q ≡ Ok query) where
  each-named : (all segments : List Segment) → AreAllWanted wanted (asked_terms all q) → Covers wanted all segments →
      AllByRecursion (λ s. Names wanted s (tree_of enable query)) segments
  each-named all [] asks covers = tt
  each-named all (s ∷ segments) asks covers = (
    subst (λ r. IfOk r (λ p. Names wanted s (tree_of enable p))) built (asked-named wanted enable s all (λ prefix most wants.
        left-wanted wanted (expansions s prefix most) (all_expansions segments prefix most)
        (subst (AreAllWanted wanted) (flat_map-cons (λ u. expansions u prefix most) s segments) (covers prefix most wants))) q asks),
    each-named all segments asks (λ prefix most wants. right-wanted wanted (expansions s prefix most) (all_expansions segments prefix most)
        (subst (AreAllWanted wanted) (flat_map-cons (λ u. expansions u prefix most) s segments) (covers prefix most wants))),
  )

  -- where all that a query asks for in some segments is wanted, its tree names nothing else there
  pub all-named : (segments : List Segment) → AreAllWanted wanted (asked_terms segments q) → AllByRecursion (λ s. Names wanted s (tree_of enable query)) segments
  all-named segments asks = each-named segments segments asks (λ prefix most wants. wants)
