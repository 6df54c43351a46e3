-- The weights of clauses stand for the trees of the clauses, and a clause that is refused behind others that
-- are served refuses them all.
use Rattle.std.proofs.Common.{◌≡◌, ℕ, zero, suc, ◌+◌, ◌<◌, ◌≤◌, Bool, true, false, ◌&&◌, List, [], ◌∷◌, ◌++◌, length, map, take, get_or, arith, refl, sym}
use Rattle.std.proofs.Common.{subst, ap, ◌∙◌, inl, inr, Box, Global}
use Rattle.std.proofs.lemmas.List.{map-append, map_more, take_all}
use Rattle.std.proofs.lemmas.List.Folds.{list_all_more}
use Rattle.std.specs.List.{list_all}
use Rattle.qm_postings.specs.declared.statistics.Bm25StatisticsProvider.{Ghosts}
use Rattle.qm_schema.specs.Schema.{FieldFacts}
use Rattle.qm_schema.specs.declared.error.QueryError.{QueryError}
use Rattle.qm_schema.specs.declared.occur.Occur.{Occur}
use Rattle.qm_schema.specs.declared.occur.Occur.TheVariants.{Should}
use Rattle.qm_weight.specs.Tree.{Clauses, Tree, clause, no_clause}
use Rattle.qm_weight.specs.Weights.{clause_occur, clauses_by, tree_of}
use Rattle.qm_weight.specs.declared.any_weight.AnyWeight.{AnyWeight}
use Rattle.qm_weight.specs.declared.terms_weight.TermClause.{TermClause}
use Rattle.qm_query.specs.EnableScoring.{schema_of}
use Rattle.qm_query.specs.Fields.{are_clauses_served, are_disjuncts_served, is_served}
use Rattle.qm_query.specs.Query.{boolean, disjuncts_of, disjunction_max, query_of, subqueries_of}
use Rattle.qm_query.specs.QueryTree.{clause_trees, disjunct_trees, query_tree}
use Rattle.qm_query.specs.SharedTerms.{shared_clause_tree}
use Rattle.qm_query.specs.WeightRefusals.{IsClauseRefused, IsDisjunctRefused, IsRefused, IsWeightRefusal}
use Rattle.qm_query.specs.declared.any_query.AnyQuery.{AnyQuery}
use Rattle.qm_query.specs.declared.enable_scoring.EnableScoring.{EnableScoring}

-- clauses, by how each occurs and by its tree
abbrev pub tree_clauses : List (Occur × Tree) → Clauses
tree_clauses [] = no_clause
tree_clauses (c ∷ cs) = clause c.0 c.1 (tree_clauses cs)

abbrev pub weight_clause : Occur × Box AnyWeight Global → Occur × Tree
weight_clause w = (w.0, tree_of w.1.value)

-- whatever occurs somehow and stands for a tree
pub clauses_by-trees : {X : Type 0} (occur : X → Occur) (tree : X → Tree) (xs : List X) →
    clauses_by occur tree xs ≡ tree_clauses (map (λ x. (occur x, tree x)) xs)
clauses_by-trees occur tree [] = refl
clauses_by-trees occur tree (x ∷ xs) = ap (clause (occur x) (tree x)) (clauses_by-trees occur tree xs)

-- whether the fields that a clause, or a disjunct, asks of serve it
abbrev pub is_clause_served : List FieldFacts → Occur × Box AnyQuery Global → Bool
is_clause_served fields c = is_served fields (query_of c.1.value)

abbrev pub is_disjunct_served : List FieldFacts → Box AnyQuery Global → Bool
is_disjunct_served fields q = is_served fields (query_of q.value)

pub are_clauses_served-list : (fields : List FieldFacts) (cs : List (Occur × Box AnyQuery Global)) →
    are_clauses_served fields (subqueries_of cs) ≡ list_all (is_clause_served fields) cs
are_clauses_served-list fields [] = refl
are_clauses_served-list fields (c ∷ cs) = ap (λ b. is_clause_served fields c && b) (are_clauses_served-list fields cs)

pub are_disjuncts_served-list : (fields : List FieldFacts) (qs : List (Box AnyQuery Global)) →
    are_disjuncts_served fields (disjuncts_of qs) ≡ list_all (is_disjunct_served fields) qs
are_disjuncts_served-list fields [] = refl
are_disjuncts_served-list fields (q ∷ qs) = ap (λ b. is_disjunct_served fields q && b) (are_disjuncts_served-list fields qs)

both_left : (a b : Bool) → (a && b) ≡ true → a ≡ true
both_left true b both = refl
both_left false b both = both

both_right : (a b : Bool) → (a && b) ≡ true → b ≡ true
both_right true b both = both
both_right false true both = refl
both_right false false both = both

-- ---- the steps of a loop over clauses

-- one item more, and all items
step : {A B C : Type 0} (f : A → C) (g : B → C) (xs after : List A) (x : A) (ys : List B) (i : ℕ) (y : B)
    → after ≡ xs ++ x ∷ [] → y ≡ get_or ys i y → i < length ys → map f xs ≡ map g (take i ys) → f x ≡ g y → map f after ≡ map g (take (i + 1) ys)
step f g xs after x ys i y pushed is within so_far same =
    ap (map f) pushed ∙ map-append f xs (x ∷ []) ∙ (λ j. so_far j ++ (same ∙ ap g is) j ∷ []) ∙ sym (map_more g ys i y within)

all_step : {B : Type 0} (p : B → Bool) (ys : List B) (i : ℕ) (y : B) → y ≡ get_or ys i y →
    i < length ys → list_all p (take i ys) ≡ true → p y ≡ true → list_all p (take (i + 1) ys) ≡ true
all_step p ys i y is within so_far here =
    list_all_more p ys i y within ∙ (λ j. so_far j && (ap p (sym is) ∙ here) j)

pub are_clauses_served-step : (fields : List FieldFacts) (cs : List (Occur × Box AnyQuery Global)) (i : ℕ) (c : Occur × Box AnyQuery Global)
    → c ≡ get_or cs i c → i < length cs → list_all (is_clause_served fields) (take i cs) ≡ true →
    is_served fields (query_of c.1.value) ≡ true → list_all (is_clause_served fields) (take (i + 1) cs) ≡ true
are_clauses_served-step fields cs i c is within so_far here = all_step (is_clause_served fields) cs i c is within so_far here

pub are_clauses_served-whole : (fields : List FieldFacts) (cs : List (Occur × Box AnyQuery Global)) (i : ℕ) → length cs ≤ i →
    list_all (is_clause_served fields) (take i cs) ≡ true → are_clauses_served fields (subqueries_of cs) ≡ true
are_clauses_served-whole fields cs i whole served = are_clauses_served-list fields cs
    ∙ ap (list_all (is_clause_served fields)) (sym (take_all i cs whole)) ∙ served

pub are_disjuncts_served-whole : (fields : List FieldFacts) (qs : List (Box AnyQuery Global)) (i : ℕ) → length qs ≤ i →
    list_all (is_disjunct_served fields) (take i qs) ≡ true → are_disjuncts_served fields (disjuncts_of qs) ≡ true
are_disjuncts_served-whole fields qs i whole served = are_disjuncts_served-list fields qs
    ∙ ap (list_all (is_disjunct_served fields)) (sym (take_all i qs whole)) ∙ served

module _ {P : Type 0} (S : Ghosts P) (under : EnableScoring P) where
  abbrev pub query_clause : Occur × Box AnyQuery Global → Occur × Tree
  query_clause c = (c.0, query_tree S under (query_of c.1.value))

  abbrev pub disjunct_clause : Box AnyQuery Global → Occur × Tree
  disjunct_clause q = (Should, query_tree S under (query_of q.value))

  -- one of the terms that share the norms
  abbrev pub shared_clause : TermClause → Occur × Tree
  shared_clause c = (clause_occur c, shared_clause_tree S under c)

  pub clause_trees-list : (cs : List (Occur × Box AnyQuery Global)) → clause_trees S under (subqueries_of cs) ≡ tree_clauses (map query_clause cs)
  clause_trees-list [] = refl
  clause_trees-list (c ∷ cs) = ap (clause c.0 (query_tree S under (query_of c.1.value))) (clause_trees-list cs)

  pub disjunct_trees-list : (qs : List (Box AnyQuery Global)) → disjunct_trees S under (disjuncts_of qs) ≡ tree_clauses (map disjunct_clause qs)
  disjunct_trees-list [] = refl
  disjunct_trees-list (q ∷ qs) = ap (clause Should (query_tree S under (query_of q.value))) (disjunct_trees-list qs)

  -- the first clause that is refused
  pub clause_refused : (cs : List (Occur × Box AnyQuery Global)) (i : ℕ) (d : Occur × Box AnyQuery Global) (error : QueryError)
      → i < length cs → list_all (is_clause_served (schema_of under)) (take i cs) ≡ true → IsRefused S under (query_of (get_or cs i d).1.value) error
      → IsClauseRefused S under (subqueries_of cs) error
  clause_refused [] i d error within served refused = absurd (omega (arith, within))
  clause_refused (c ∷ cs) zero d error within served refused = inl refused
  clause_refused (c ∷ cs) (suc i) d error within served refused =
      let here = is_clause_served (schema_of under) c in
      let others = list_all (is_clause_served (schema_of under)) (take i cs) in
      inr (both_left here others served, clause_refused cs i d error (omega (arith, within)) (both_right here others served) refused)

  pub disjunct_refused : (qs : List (Box AnyQuery Global)) (i : ℕ) (d : Box AnyQuery Global) (error : QueryError)
      → i < length qs → list_all (is_disjunct_served (schema_of under)) (take i qs) ≡ true → IsRefused S under (query_of (get_or qs i d).value) error
      → IsDisjunctRefused S under (disjuncts_of qs) error
  disjunct_refused [] i d error within served refused = absurd (omega (arith, within))
  disjunct_refused (q ∷ qs) zero d error within served refused = inl refused
  disjunct_refused (q ∷ qs) (suc i) d error within served refused =
      let here = is_disjunct_served (schema_of under) q in
      let others = list_all (is_disjunct_served (schema_of under)) (take i qs) in
      inr (both_left here others served, disjunct_refused qs i d error (omega (arith, within)) (both_right here others served) refused)

  pub clause_weight_refused : (cs : List (Occur × Box AnyQuery Global)) (i minimum : ℕ) (c : Occur × Box AnyQuery Global) (error : QueryError)
      → c ≡ get_or cs i c → i < length cs → list_all (is_clause_served (schema_of under)) (take i cs) ≡ true →
      IsWeightRefusal S under (query_of c.1.value) error
      → IsWeightRefusal S under (boolean minimum (subqueries_of cs)) error
  clause_weight_refused cs i minimum c error is within served (inl memory) = inl memory
  clause_weight_refused cs i minimum c error is within served (inr refused) =
      inr (clause_refused cs i c error within served (subst (λ (x : Occur × Box AnyQuery Global). IsRefused S under (query_of x.1.value) error) is refused))

  pub disjunct_weight_refused : (qs : List (Box AnyQuery Global)) (i tie_breaker : ℕ) (q : Box AnyQuery Global) (error : QueryError)
      → q ≡ get_or qs i q → i < length qs → list_all (is_disjunct_served (schema_of under)) (take i qs) ≡ true →
      IsWeightRefusal S under (query_of q.value) error
      → IsWeightRefusal S under (disjunction_max tie_breaker (disjuncts_of qs)) error
  disjunct_weight_refused qs i tie_breaker q error is within served (inl memory) = inl memory
  disjunct_weight_refused qs i tie_breaker q error is within served (inr refused) =
      inr (disjunct_refused qs i q error within served (subst (λ (x : Box AnyQuery Global). IsRefused S under (query_of x.value) error) is refused))

  pub clause_trees-step : {X : Type 0} (clause_of : X → Occur × Tree) (xs after : List X) (x : X)
      (cs : List (Occur × Box AnyQuery Global)) (i : ℕ) (c : Occur × Box AnyQuery Global)
      → after ≡ xs ++ x ∷ [] → c ≡ get_or cs i c → i < length cs → map clause_of xs ≡ map query_clause (take i cs) →
      clause_of x ≡ query_clause c → map clause_of after ≡ map query_clause (take (i + 1) cs)
  clause_trees-step clause_of xs after x cs i c pushed is within so_far same = step clause_of query_clause xs after x cs i c pushed is within so_far same

  pub clause_trees-whole : {X : Type 0} (occur : X → Occur) (tree : X → Tree) (xs : List X) (cs : List (Occur × Box AnyQuery Global)) (i : ℕ) →
      length cs ≤ i → map (λ x. (occur x, tree x)) xs ≡ map query_clause (take i cs) → clauses_by occur tree xs ≡ clause_trees S under (subqueries_of cs)
  clause_trees-whole occur tree xs cs i whole same = clauses_by-trees occur tree xs
      ∙ ap tree_clauses (same ∙ ap (map query_clause) (take_all i cs whole)) ∙ sym (clause_trees-list cs)

  pub disjunct_trees-whole : {X : Type 0} (occur : X → Occur) (tree : X → Tree) (xs : List X) (qs : List (Box AnyQuery Global)) (i : ℕ) → length qs ≤ i →
      map (λ x. (occur x, tree x)) xs ≡ map disjunct_clause (take i qs) → clauses_by occur tree xs ≡ disjunct_trees S under (disjuncts_of qs)
  disjunct_trees-whole occur tree xs qs i whole same = clauses_by-trees occur tree xs
      ∙ ap tree_clauses (same ∙ ap (map disjunct_clause) (take_all i qs whole)) ∙ sym (disjunct_trees-list qs)
