-- The field of a script's documents serves every query that a line asks: so of what may be refused where it is
-- listed, memory aside, its scores alone are left.
use Rattle.std.proofs.Common.{◌≡◌, ◌⊎◌, arith, inl, inr, ℕ, zero, suc, ◌+◌, ◌==◌, ◌&&◌, Bool, true, false, if◌then◌else◌, nat_lt, is_none}
use Rattle.std.proofs.Common.{List, [], ◌∷◌, Option, None, Some, Ok}
use Rattle.std.proofs.Common.{IfOk, length, map, refl, ap, sym, subst}
use Rattle.std.proofs.lemmas.Bool.{false≢true, and_parts}
use Rattle.std.specs.List.{enumerate_from}
use Rattle.qm_postings.specs.Statistics.{Searched}
use Rattle.qm_postings.specs.contracts.searcher.SearcherBm25StatisticsProvider.TheImpl.{ghosts}
use Rattle.qm_query.specs.EnableScoring.{is_enabled, schema_of}
use Rattle.qm_query.specs.Fields.{are_clauses_served, are_disjuncts_served, is_served, phrase_field_refusal, prefix_field_refusal, term_field_refusal}
use Rattle.qm_query.specs.Offsets.{first_field, bare_terms}
use Rattle.qm_query.specs.Query as query
use Rattle.qm_query.specs.Query.{Query, Subqueries, Disjuncts, all, none, term, phrase, phrase_prefix, boolean, boost, constant, disjunction_max, no_subquery}
use Rattle.qm_query.specs.Query.{subquery, no_disjunct, disjunct}
use Rattle.qm_query.specs.QueryTree.{clause_trees, disjunct_trees, full_prefix_tree, if_scoring, leaf_weighing}
use Rattle.qm_query.specs.WeightRefusals.{IsByProvider, IsClauseRefused, IsDisjunctRefused, IsLeafRefusal, IsRefused}
use Rattle.qm_query.specs.declared.enable_scoring.EnableScoring.{EnableScoring}
use Rattle.qm_query.specs.declared.enable_scoring.EnableScoring.TheVariants.{Enabled, Disabled}
use Rattle.qm_schema.specs.Term.{TermKey}
use Rattle.qm_schema.specs.declared.error.QueryError.{QueryError}
use Rattle.qm_schema.specs.declared.error.QueryError.TheVariants.{Memory, ScoreBound, TieBreaker}
use Rattle.birchagain.specs.Body.{body_field, body_term}
use Rattle.qm_script.specs.Asked.{asked, clauses_asked, disjuncts_asked, prefix_parts}
use Rattle.qm_script.specs.Fields.{script_fields}
use Rattle.qm_script.specs.Script as language
use Rattle.qm_script.specs.Script.{no_clause, clause, no_query}
use Rattle.qm_script.specs.Under.{IsBestRefusal, IsListingRefusal, IsScoreRefusal, IsWithinBest, IsWithinScores, tree_of}
use Rattle.qm_script.proofs.AskedTrees.{bind-ok, test-ok, unless-ok}
use Rattle.qm_script.proofs.WordLemmas.{not_zero}
use Rattle.qm_weight.specs.Scorers.{IsRefusalOf}
use Rattle.qm_weight.specs.Tree as tree
use Rattle.qm_weight.specs.Tree.{ClauseLeavesFit, Fits, LeavesFit, Tree, WeighsScore}
use Rattle.qm_weight.specs.Weights.{prefix_alone}

-- ---- what is asked is served

abbrev IsServed : Query → Type 0
IsServed q = is_served script_fields q ≡ true

abbrev AreServed : Subqueries → Type 0
AreServed cs = are_clauses_served script_fields cs ≡ true

abbrev AreDisjunctsServed : Disjuncts → Type 0
AreDisjunctsServed ds = are_disjuncts_served script_fields ds ≡ true

row-served : (words : List (List ℕ)) → is_none (phrase_field_refusal script_fields (first_field (λ t. t.1) (enumerate_from 0 (map body_term words)))) ≡ true
row-served [] = refl
row-served (w ∷ words) = refl

-- the last of a row is a word of that field too
last-field : (most : ℕ) (t : ℕ × TermKey) (n : ℕ) (words : List (List ℕ)) → t.1.field ≡ body_field →
    (prefix_parts most t (enumerate_from n (map body_term words))).prefix.1.field ≡ body_field
last-field most t n [] is = is
last-field most t n (w ∷ words) is = last-field most (n, body_term w) (n + 1) words refl

either : (b : Bool) (x y : Option QueryError) → is_none x ≡ true → is_none y ≡ true → is_none (if b then x else y) ≡ true
either true x y first second = first
either false x y first second = second

prefix-served : (most : ℕ) (w : List ℕ) (words : List (List ℕ)) →
    IsServed (phrase_prefix (prefix_parts most (0, body_term w) (enumerate_from 1 (map body_term words))))
prefix-served most w words =
    let parts = prefix_parts most (0, body_term w) (enumerate_from 1 (map body_term words)) in
    let field = last-field most (0, body_term w) 1 words refl in
    either (length parts.terms == 0) (term_field_refusal script_fields parts.prefix.1.field) (phrase_field_refusal script_fields parts.prefix.1.field)
    (ap (λ f. is_none (term_field_refusal script_fields f)) field) (ap (λ f. is_none (phrase_field_refusal script_fields f)) field)

mutual
  asked-served : (q : language.Query) → IfOk (asked q) IsServed
  asked-served language.all = refl
  asked-served language.none = refl
  asked-served (language.term word) = refl
  asked-served (language.phrase slop words) = unless-ok IsServed _ _ (row-served words)
  asked-served (language.phrase_prefix most []) = tt
  asked-served (language.phrase_prefix most (w ∷ words)) = unless-ok IsServed _ _ (prefix-served most w words)
  asked-served (language.boolean minimum clauses) =
      bind-ok (λ cs. AreServed (query.subqueries cs)) IsServed (clauses_asked clauses) _ (clauses-served clauses) (λ cs h. h)
  asked-served (language.boost factor inner) = bind-ok IsServed IsServed (asked inner) _ (asked-served inner) (λ q h. h)
  asked-served (language.constant score inner) = bind-ok IsServed IsServed (asked inner) _ (asked-served inner) (λ q h. h)
  asked-served (language.disjunction_max tie_breaker queries) =
      bind-ok (λ qs. AreDisjunctsServed (query.disjuncts qs)) IsServed (disjuncts_asked queries) _
      (queries-served queries) (λ qs h. test-ok IsServed (nat_lt 1000 tie_breaker) TieBreaker _ h)

  clauses-served : (cs : language.Clauses) → IfOk (clauses_asked cs) (λ qs. AreServed (query.subqueries qs))
  clauses-served no_clause = refl
  clauses-served (clause occur inner cs) =
      bind-ok IsServed (λ qs. AreServed (query.subqueries qs)) (asked inner) _ (asked-served inner) (λ q here.
      bind-ok (λ qs. AreServed (query.subqueries qs)) (λ qs. AreServed (query.subqueries qs))
      (clauses_asked cs) _ (clauses-served cs) (λ qs others. λ i. here i && others i))

  queries-served : (ds : language.Queries) → IfOk (disjuncts_asked ds) (λ qs. AreDisjunctsServed (query.disjuncts qs))
  queries-served no_query = refl
  queries-served (language.query inner ds) =
      bind-ok IsServed (λ qs. AreDisjunctsServed (query.disjuncts qs)) (asked inner) _ (asked-served inner) (λ q here.
      bind-ok (λ qs. AreDisjunctsServed (query.disjuncts qs)) (λ qs. AreDisjunctsServed (query.disjuncts qs))
      (disjuncts_asked ds) _ (queries-served ds) (λ qs others. λ i. here i && others i))

-- ---- what is left of its refusals

leaf-refused : (due : Option QueryError) (by_provider : QueryError → Type 0) (e : QueryError) →
    is_none due ≡ true → IsLeafRefusal due by_provider e → by_provider e
leaf-refused None by_provider e served refused = refused
leaf-refused (Some d) by_provider e served refused = absurd (false≢true served)

-- what is inside a node, or stands for it where scoring is off
boost-leaves : (scoring : Bool) (k : ℕ) (inside : Tree) → LeavesFit (if_scoring scoring (tree.boost k) inside) → LeavesFit inside
boost-leaves true k inside fits = fits
boost-leaves false k inside fits = fits

constant-leaves : (scoring : Bool) (s : ℕ) (inside : Tree) → LeavesFit (if_scoring scoring (tree.constant s) inside) → LeavesFit inside
constant-leaves true s inside fits = fits
constant-leaves false s inside fits = fits

-- a prefix behind full terms
full-leaves : (is_alone : Bool) → is_alone ≡ false → (alone : TermKey) (most : ℕ) (whole : Tree) →
    LeavesFit (if is_alone then prefix_alone alone most else whole) → LeavesFit whole
full-leaves true isnt alone most whole fits = absurd (false≢true (sym isnt))
full-leaves false isnt alone most whole fits = fits

module _ (e : QueryError) where
  by-provider : (enable : EnableScoring Searched) (terms : List TermKey) → IsByProvider ghosts enable terms e → e ≡ ScoreBound
  by-provider (Enabled searcher provider) terms refused = refused.0
  by-provider (Disabled schema searcher) terms refused = absurd refused

  module _ (enable : EnableScoring Searched) where
    mutual
      refused-bound : (q : Query) → is_served (schema_of enable) q ≡ true → IsRefused ghosts enable q e → e ≡ ScoreBound
      refused-bound all served refused = absurd refused
      refused-bound none served refused = absurd refused
      refused-bound (term t) served refused = by-provider enable _ (leaf-refused (term_field_refusal (schema_of enable) t.term.field) _ e served refused)
      refused-bound (phrase p) served refused =
          by-provider enable _ (leaf-refused (phrase_field_refusal (schema_of enable) (first_field (λ t. t.1) p.terms)) _ e served refused)
      refused-bound (phrase_prefix p) served refused =
          by-provider enable _ (leaf-refused (prefix_field_refusal (schema_of enable) p.terms p.prefix.1.field) _ e served refused).1
      refused-bound (boolean minimum clauses) served refused = clauses-bound clauses served refused
      refused-bound (boost factor inside) served refused = refused-bound inside served refused
      refused-bound (constant score inside) served refused = refused-bound inside served refused
      refused-bound (disjunction_max tie_breaker disjuncts) served refused = disjuncts-bound disjuncts served refused

      clauses-bound : (cs : Subqueries) → are_clauses_served (schema_of enable) cs ≡ true → IsClauseRefused ghosts enable cs e → e ≡ ScoreBound
      clauses-bound no_subquery served refused = absurd refused
      clauses-bound (subquery occur q cs) served (inl here) = refused-bound q (and_parts _ _ served).0 here
      clauses-bound (subquery occur q cs) served (inr later) = clauses-bound cs (and_parts (is_served (schema_of enable) q) _ served).1 later.1

      disjuncts-bound : (ds : Disjuncts) → are_disjuncts_served (schema_of enable) ds ≡ true → IsDisjunctRefused ghosts enable ds e → e ≡ ScoreBound
      disjuncts-bound no_disjunct served refused = absurd refused
      disjuncts-bound (disjunct q ds) served (inl here) = refused-bound q (and_parts _ _ served).0 here
      disjuncts-bound (disjunct q ds) served (inr later) = disjuncts-bound ds (and_parts (is_served (schema_of enable) q) _ served).1 later.1

  leaf-past : (enable : EnableScoring Searched) (terms : List TermKey) → IsByProvider ghosts enable terms e →
      ¬ WeighsScore (leaf_weighing ghosts enable terms)
  leaf-past (Enabled searcher provider) terms refused = λ fits. absurd (omega (arith, refused.1, fits))
  leaf-past (Disabled schema searcher) terms refused = absurd refused

  module _ (enable : EnableScoring Searched) where
    -- what the searcher refuses weighs too much
    mutual
      refused-past : (q : Query) → is_served (schema_of enable) q ≡ true → IsRefused ghosts enable q e → ¬ LeavesFit (tree_of enable q)
      refused-past all served refused = absurd refused
      refused-past none served refused = absurd refused
      refused-past (term t) served refused =
          leaf-past enable _ (leaf-refused (term_field_refusal (schema_of enable) t.term.field) _ e served refused)
      refused-past (phrase p) served refused =
          leaf-past enable _ (leaf-refused (phrase_field_refusal (schema_of enable) (first_field (λ t. t.1) p.terms)) _ e served refused)
      refused-past (phrase_prefix p) served refused =
          let by = leaf-refused (prefix_field_refusal (schema_of enable) p.terms p.prefix.1.field) _ e served refused in
          λ fits. leaf-past enable (bare_terms p.terms) by.1 (full-leaves (length p.terms == 0) (not_zero (length p.terms) by.0) p.prefix.1
          p.max_expansions (full_prefix_tree ghosts enable p) fits)
      refused-past (boolean minimum clauses) served refused = clauses-past clauses served refused
      refused-past (boost factor inside) served refused = λ fits.
          refused-past inside served refused (boost-leaves (is_enabled enable) factor (tree_of enable inside) fits)
      refused-past (constant score inside) served refused = λ fits.
          refused-past inside served refused (constant-leaves (is_enabled enable) score (tree_of enable inside) fits)
      refused-past (disjunction_max tie_breaker disjuncts) served refused = disjuncts-past disjuncts served refused

      clauses-past : (cs : Subqueries) → are_clauses_served (schema_of enable) cs ≡ true → IsClauseRefused ghosts enable cs e →
          ¬ ClauseLeavesFit (clause_trees ghosts enable cs)
      clauses-past no_subquery served refused = absurd refused
      clauses-past (subquery occur q cs) served (inl here) = λ fits. refused-past q (and_parts _ _ served).0 here fits.0
      clauses-past (subquery occur q cs) served (inr later) = λ fits.
          clauses-past cs (and_parts (is_served (schema_of enable) q) _ served).1 later.1 fits.1

      disjuncts-past : (ds : Disjuncts) → are_disjuncts_served (schema_of enable) ds ≡ true → IsDisjunctRefused ghosts enable ds e →
          ¬ ClauseLeavesFit (disjunct_trees ghosts enable ds)
      disjuncts-past no_disjunct served refused = absurd refused
      disjuncts-past (disjunct q ds) served (inl here) = λ fits. refused-past q (and_parts _ _ served).0 here fits.0
      disjuncts-past (disjunct q ds) served (inr later) = λ fits.
          disjuncts-past ds (and_parts (is_served (schema_of enable) q) _ served).1 later.1 fits.1

tree-refused : (e : QueryError) (tree : Tree) → IsRefusalOf tree 1 e → (e ≡ Memory) ⊎ ((e ≡ ScoreBound) × (¬ Fits tree 1))
tree-refused ScoreBound tree refused = inr (refl, refused)
tree-refused Memory tree refused = inl refl
tree-refused e tree refused = absurd refused

-- a query that a line asks, of the fields of a script's documents
module _ (enable : EnableScoring Searched) (q : language.Query) (built : Query)
    (fields : schema_of enable ≡ script_fields) (is_asked : asked q ≡ Ok built) where
  served-here : is_served (schema_of enable) built ≡ true
  served-here = subst (λ f. is_served f built ≡ true) (sym fields) (subst (λ r. IfOk r IsServed) is_asked (asked-served q))

  pub score-refusal : (e : QueryError) → IsListingRefusal enable built e → (e ≡ Memory) ⊎ IsScoreRefusal (IsWithinScores enable) built e
  score-refusal e (inl (inl memory)) = inl memory
  score-refusal e (inl (inr refused)) =
      let is = refused-bound e enable built served-here refused in
      inr (record { error_is = is; past = λ within. refused-past e enable built served-here refused within.leaves })
  score-refusal e (inr of_tree) = elim (tree-refused e (tree_of enable built) of_tree) [
    | inl memory ↦ inl memory
    | inr past ↦ inr (record { error_is = past.0; past = λ within. past.1 within.nodes })
  ]

  -- the same of the best so many
  pub best-refusal : (count : ℕ) (e : QueryError) → IsBestRefusal count enable built e → (e ≡ Memory) ⊎ IsScoreRefusal (IsWithinBest count enable) built e
  best-refusal zero e (inl memory) = inl memory
  best-refusal zero e (inr refused) =
      let is = refused-bound e enable built served-here refused in
      inr (record { error_is = is; past = λ leaves. refused-past e enable built served-here refused leaves })
  best-refusal (suc count) e refused = elim (score-refusal e refused) [
    | inl memory ↦ inl memory
    | inr past ↦ inr (record { error_is = past.error_is; past = past.past })
  ]
