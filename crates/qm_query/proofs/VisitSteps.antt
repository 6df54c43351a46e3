-- Visits of terms part by part: those of the first part may be made, and behind them those of the others.
use Rattle.std.proofs.Common.{◌≡◌, ℕ, ◌+◌, ◌<◌, Bool, List, [], ◌∷◌, ◌++◌, length, drop, get_or, sym, subst, ap, ◌∙◌, Box, Global}
use Rattle.std.proofs.lemmas.List.{at_drop_more}
use Rattle.std.specs.Fn.{Mut}
use denote.Ref.{Bor}
use Rattle.qm_schema.specs.Term.{TermKey}
use Rattle.qm_schema.specs.declared.occur.Occur.{Occur}
use Rattle.qm_term.specs.Runs.{CallsEach, MayCallEach}
use Rattle.qm_term.specs.RunsFacts.{CallsEach-append}
use Rattle.qm_query.specs.Query.{disjuncts_of, query_of, subqueries_of}
use Rattle.qm_query.specs.QueryTerms.{MayVisitTerm, MayVisitTerms, VisitsTerm, VisitsTerms, terms_of_clauses, terms_of_disjuncts, terms_of_phrase}
use Rattle.qm_query.specs.QueryTerms.{terms_of_query}
use Rattle.qm_query.specs.declared.any_query.AnyQuery.{AnyQuery}

-- ---- the terms that are left

abbrev pub phrase_left : List (ℕ × TermKey) → ℕ → List (TermKey × Bool)
phrase_left terms i = terms_of_phrase (drop i terms)

abbrev pub clauses_left : List (Occur × Box AnyQuery Global) → ℕ → List (TermKey × Bool)
clauses_left clauses i = terms_of_clauses (subqueries_of (drop i clauses))

abbrev pub disjuncts_left : List (Box AnyQuery Global) → ℕ → List (TermKey × Bool)
disjuncts_left disjuncts i = terms_of_disjuncts (disjuncts_of (drop i disjuncts))

pub clauses_left-more : (clauses : List (Occur × Box AnyQuery Global)) (i : ℕ) (c : Occur × Box AnyQuery Global)
    → c ≡ get_or clauses i c → i < length clauses → clauses_left clauses i ≡ terms_of_query (query_of c.1.value) ++ clauses_left clauses (i + 1)
clauses_left-more clauses i c is within =
    at_drop_more (λ left. terms_of_clauses (subqueries_of left)) clauses i c within
    ∙ ap (λ (d : Occur × Box AnyQuery Global). terms_of_query (query_of d.1.value) ++ clauses_left clauses (i + 1)) (sym is)

pub disjuncts_left-more : (disjuncts : List (Box AnyQuery Global)) (i : ℕ) (q : Box AnyQuery Global)
    → q ≡ get_or disjuncts i q → i < length disjuncts → disjuncts_left disjuncts i ≡ terms_of_query (query_of q.value) ++ disjuncts_left disjuncts (i + 1)
disjuncts_left-more disjuncts i q is within =
    at_drop_more (λ left. terms_of_disjuncts (disjuncts_of left)) disjuncts i q within
    ∙ ap (λ (d : Box AnyQuery Global). terms_of_query (query_of d.value) ++ disjuncts_left disjuncts (i + 1)) (sym is)

-- ---- calls for a first part, and then for the others

module _ {F A : Type 0} (call : F → A → F → Type 0) (allowed : F → A → Type 0) where
  front_allowed : (xs ys : List A) (f : F) → MayCallEach call allowed f (xs ++ ys) → MayCallEach call allowed f xs
  front_allowed [] ys f may = tt
  front_allowed (x ∷ xs) ys f may = (may.0, λ g made. front_allowed xs ys g (may.1 g made))

  others_allowed : (xs ys : List A) (f g : F) → MayCallEach call allowed f (xs ++ ys) → CallsEach call f xs g → MayCallEach call allowed g ys
  others_allowed [] ys f g may made = subst (λ h. MayCallEach call allowed h ys) made may
  others_allowed (x ∷ xs) ys f g may made = others_allowed xs ys made.0 g (may.1 made.0 made.1) made.2

-- Of what is left the terms of one clause come first, and then `rest`.
module _ {F : Type 0} (C : Mut F (Bor TermKey × (Bool × Unit {0})) (Unit {0})) (left here rest : List (TermKey × Bool)) (is : left ≡ here ++ rest) (f : F) where
  pub here_allowed : MayVisitTerms C f left → MayVisitTerms C f here
  here_allowed may = front_allowed (VisitsTerm C) (MayVisitTerm C) here rest f (subst (MayVisitTerms C f) is may)

  module _ (g : F) (made : VisitsTerms C f here g) where
    pub rest_allowed : MayVisitTerms C f left → MayVisitTerms C g rest
    rest_allowed may = others_allowed (VisitsTerm C) (MayVisitTerm C) here rest f g (subst (MayVisitTerms C f) is may) made

    pub rest_called : (last : F) → VisitsTerms C g rest last → VisitsTerms C f left last
    rest_called last others = subst (λ terms. VisitsTerms C f terms last) (sym is) (CallsEach-append (VisitsTerm C) here rest f g last made others)
