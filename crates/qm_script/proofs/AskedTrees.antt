-- The prefixes in the trees of the queries that lines ask pass a test where those that are spelled do.
use Rattle.std.proofs.Common.{◌≡◌, ℕ, ◌+◌, ◌==◌, Bool, true, false, not, ◌&&◌, ◌||◌, if◌then◌else◌, nat_lt, List, [], ◌∷◌, length, map, Option, None, Some, Result, Ok, Err, IfOk}
use Rattle.std.proofs.Common.{refl, sym}
use Rattle.std.specs.List.{enumerate_from}
use Rattle.std.proofs.lemmas.Bool.{false≢true}
use Rattle.qm_postings.specs.Statistics.{Searched}
use Rattle.qm_query.specs.EnableScoring.{is_enabled}
use Rattle.qm_query.specs.Query as query
use Rattle.qm_query.specs.Query.{Query, Subqueries, Disjuncts, all, none, term, phrase, phrase_prefix, boolean, boost, constant, disjunction_max, no_subquery}
use Rattle.qm_query.specs.Query.{subquery, no_disjunct, disjunct}
use Rattle.qm_query.specs.Parts.{PrefixParts}
use Rattle.qm_query.specs.QueryTree.{clause_trees, disjunct_trees, full_prefix_tree, if_scoring}
use Rattle.qm_query.specs.declared.enable_scoring.EnableScoring.{EnableScoring}
use Rattle.qm_postings.specs.contracts.searcher.SearcherBm25StatisticsProvider.TheImpl.{ghosts}
use Rattle.qm_schema.specs.declared.error.QueryError.{QueryError}
use Rattle.qm_schema.specs.declared.error.QueryError.TheVariants.{TieBreaker}
use Rattle.birchagain.specs.Body.{body_term}
use Rattle.qm_script.specs.Asked.{asked, clauses_asked, disjuncts_asked, prefix_parts, unless, ◌>>=◌}
use Rattle.qm_script.specs.PrefixFree.{PrefixTest, all_prefixes, clauses_all_prefixes}
use Rattle.qm_script.specs.Prefixes.{has_failing, have_clauses_failing, have_queries_failing, last_passes}
use Rattle.qm_script.specs.Script as language
use Rattle.qm_script.specs.Script.{no_clause, clause, no_query}
use Rattle.qm_script.specs.Under.{tree_of}
use Rattle.qm_weight.specs.Tree as tree
use Rattle.qm_weight.specs.Weights.{prefix_alone}
use Rattle.qm_weight.specs.Tree.{Tree, clauses_scoring, is_scoring}

-- ---- prefixes

pub bind-ok : {A B : Type 0} (P : A → Type 0) (Q : B → Type 0) (r : Result A QueryError) (f : A → Result B QueryError) →
    IfOk r P → ((x : A) → P x → IfOk (f x) Q) → IfOk (r >>= f) Q
bind-ok P Q (Ok x) f holds next = next x holds
bind-ok P Q (Err e) f holds next = tt

pub unless-ok : {A : Type 0} (P : A → Type 0) (due : Option QueryError) (x : A) → P x → IfOk (unless due x) P
unless-ok P None x holds = holds
unless-ok P (Some e) x holds = tt

pub test-ok : {A : Type 0} (P : A → Type 0) (b : Bool) (e : QueryError) (x : A) → P x → IfOk (let r : Result A QueryError = if b then Err e else Ok x in r) P
test-ok P true e x holds = tt
test-ok P false e x holds = holds

neither-left : (a b : Bool) → (a || b) ≡ false → a ≡ false
neither-left true b fails = fails
neither-left false b fails = refl

neither-right : (a b : Bool) → (a || b) ≡ false → b ≡ false
neither-right true b fails = absurd (false≢true (sym fails))
neither-right false b fails = fails

passed : (b : Bool) → not b ≡ false → b ≡ true
passed true fails = refl
passed false fails = absurd (false≢true (sym fails))

module _ (test : PrefixTest) where
  if_scoring-pass : (on : Bool) (node : Tree → Tree) (inside : Tree) → (all_prefixes test inside ≡ true → all_prefixes test (node inside) ≡ true) →
      all_prefixes test inside ≡ true → all_prefixes test (if_scoring on node inside) ≡ true
  if_scoring-pass true node inside keeps pass = keeps pass
  if_scoring-pass false node inside keeps pass = pass

  either-passes : (b : Bool) (x y : Tree) → all_prefixes test x ≡ true → all_prefixes test y ≡ true → all_prefixes test (if b then x else y) ≡ true
  either-passes true x y here there = here
  either-passes false x y here there = there

  -- the prefix behind the words that stand in full
  last-passes : (most j k : ℕ) (w : List ℕ) (words : List (List ℕ)) → last_passes test most (w ∷ words) ≡ true →
      (let p = prefix_parts most (j, body_term w) (enumerate_from k (map body_term words)) in test p.prefix.1 p.max_expansions) ≡ true
  last-passes most j k w [] passes = passes
  last-passes most j k w (v ∷ words) passes = last-passes most k (k + 1) v words passes

  module _ (enable : EnableScoring Searched) where
    abbrev Passes : Query → Type 0
    Passes q = all_prefixes test (tree_of enable q) ≡ true

    abbrev ClausesPass : Subqueries → Type 0
    ClausesPass cs = clauses_all_prefixes test (clause_trees ghosts enable cs) ≡ true

    abbrev DisjunctsPass : Disjuncts → Type 0
    DisjunctsPass ds = clauses_all_prefixes test (disjunct_trees ghosts enable ds) ≡ true

    -- with full terms or without
    prefix-passes : (p : PrefixParts) → test p.prefix.1 p.max_expansions ≡ true → Passes (query.phrase_prefix p)
    prefix-passes p passes =
        either-passes (length p.terms == 0) (prefix_alone p.prefix.1 p.max_expansions) (full_prefix_tree ghosts enable p) passes passes

    mutual
      -- what is asked without a prefix that fails has a tree whose prefixes pass
      pub asked-passes : (q : language.Query) → has_failing test q ≡ false → IfOk (asked q) Passes
      asked-passes language.all pass = refl
      asked-passes language.none pass = refl
      asked-passes (language.term word) pass = refl
      asked-passes (language.phrase slop words) pass = unless-ok Passes _ _ refl
      asked-passes (language.phrase_prefix most []) pass = tt
      asked-passes (language.phrase_prefix most (w ∷ words)) pass =
          unless-ok Passes _ _ (prefix-passes (prefix_parts most (0, body_term w) (enumerate_from 1 (map body_term words)))
          (last-passes most 0 1 w words (passed (last_passes test most (w ∷ words)) pass)))
      asked-passes (language.boolean minimum clauses) pass =
          bind-ok (λ cs. ClausesPass (query.subqueries cs)) Passes (clauses_asked clauses) _ (clauses-pass clauses pass) (λ cs h. h)
      asked-passes (language.boost factor inner) pass =
          bind-ok Passes Passes (asked inner) _ (asked-passes inner pass)
          (λ q h. if_scoring-pass (is_enabled enable) (tree.boost _) (tree_of enable q) (λ k. k) h)
      asked-passes (language.constant score inner) pass = bind-ok Passes Passes (asked inner) _ (asked-passes inner pass)
          (λ q h. if_scoring-pass (is_enabled enable) (tree.constant _) (tree_of enable q) (λ k. k) h)
      asked-passes (language.disjunction_max tie_breaker queries) pass = bind-ok (λ qs. DisjunctsPass (query.disjuncts qs)) Passes
          (disjuncts_asked queries) _ (queries-pass queries pass) (λ qs h. test-ok Passes (nat_lt 1000 tie_breaker) TieBreaker _ h)

      clauses-pass : (cs : language.Clauses) → have_clauses_failing test cs ≡ false → IfOk (clauses_asked cs) (λ qs. ClausesPass (query.subqueries qs))
      clauses-pass no_clause pass = refl
      clauses-pass (clause occur inner cs) pass =
          bind-ok Passes (λ qs. ClausesPass (query.subqueries qs)) (asked inner) _
          (asked-passes inner (neither-left (has_failing test inner) (have_clauses_failing test cs) pass)) (λ q here.
          bind-ok (λ qs. ClausesPass (query.subqueries qs)) (λ qs. ClausesPass (query.subqueries qs)) (clauses_asked cs) _
          (clauses-pass cs (neither-right (has_failing test inner) (have_clauses_failing test cs) pass)) (λ qs others. λ i. here i && others i))

      queries-pass : (ds : language.Queries) → have_queries_failing test ds ≡ false → IfOk (disjuncts_asked ds) (λ qs. DisjunctsPass (query.disjuncts qs))
      queries-pass no_query pass = refl
      queries-pass (language.query inner ds) pass =
          bind-ok Passes (λ qs. DisjunctsPass (query.disjuncts qs)) (asked inner) _
          (asked-passes inner (neither-left (has_failing test inner) (have_queries_failing test ds) pass)) (λ q here.
          bind-ok (λ qs. DisjunctsPass (query.disjuncts qs)) (λ qs. DisjunctsPass (query.disjuncts qs)) (disjuncts_asked ds) _
          (queries-pass ds (neither-right (has_failing test inner) (have_queries_failing test ds) pass)) (λ qs others. λ i. here i && others i))
