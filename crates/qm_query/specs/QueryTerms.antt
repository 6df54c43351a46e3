-- The terms that a query names, and what a visit of them makes of a callback.
use Rattle.std.specs.Prelude.{◌≡◌, ℕ, Bool, true, false, List, [], ◌∷◌, ◌++◌, map}
use Rattle.std.specs.Fn.{Called, Mut, Takes}
use denote.Ref.{Bor}
use Rattle.qm_schema.specs.Term.{TermKey}
use Rattle.qm_term.specs.Runs.{CallsEach, MayCallEach}
use Rattle.qm_query.specs.Query.{Query, Subqueries, Disjuncts, all, none, term, phrase, phrase_prefix, boolean, boost, constant, disjunction_max, no_subquery}
use Rattle.qm_query.specs.Query.{subquery, no_disjunct, disjunct}

-- ---- the terms, each with whether its positions are wanted

-- those of a phrase, in the order of their offsets
abbrev pub terms_of_phrase : List (ℕ × TermKey) → List (TermKey × Bool)
terms_of_phrase terms = map (λ t. (t.1, true)) terms

abbrev mutual
  -- in the order of the clauses, those of a MustNot too; of a phrase prefix the full terms alone
  pub terms_of_query : Query → List (TermKey × Bool)
  terms_of_query all = []
  terms_of_query none = []
  terms_of_query (term q) = (q.term, false) ∷ []
  terms_of_query (phrase q) = terms_of_phrase q.terms
  terms_of_query (phrase_prefix q) = terms_of_phrase q.terms
  terms_of_query (boolean minimum clauses) = terms_of_clauses clauses
  terms_of_query (boost factor inside) = terms_of_query inside
  terms_of_query (constant score inside) = terms_of_query inside
  terms_of_query (disjunction_max tie_breaker disjuncts) = terms_of_disjuncts disjuncts

  pub terms_of_clauses : Subqueries → List (TermKey × Bool)
  terms_of_clauses no_subquery = []
  terms_of_clauses (subquery occur query clauses) = terms_of_query query ++ terms_of_clauses clauses

  pub terms_of_disjuncts : Disjuncts → List (TermKey × Bool)
  terms_of_disjuncts no_disjunct = []
  terms_of_disjuncts (disjunct query disjuncts) = terms_of_query query ++ terms_of_disjuncts disjuncts

-- ---- visits: a call for each of them, in order

module _ {F : Type 0} (C : Mut F (Bor TermKey × (Bool × Unit {0})) (Unit {0})) where
  -- the call with a term, and with whether its positions are wanted, may take the callback from f to g
  pub record VisitsTerm (f : F) (named : TermKey × Bool) (g : F) : Type 0 where
    pub shown : Bor TermKey
    pub shows : shown.now ≡ named.0
    pub called : Called C f (shown, (named.1, tt)) tt g

  -- that call is allowed
  abbrev pub MayVisitTerm : F → TermKey × Bool → Type 0
  MayVisitTerm f named = (y : Bor TermKey) → y.now ≡ named.0 → Takes C f (y, (named.1, tt))

  -- a call for each of the terms, in order, takes the callback from f to g
  abbrev pub VisitsTerms : F → List (TermKey × Bool) → F → Type 0
  VisitsTerms f terms g = CallsEach VisitsTerm f terms g

  -- each of these calls is allowed, whatever the calls before it left
  abbrev pub MayVisitTerms : F → List (TermKey × Bool) → Type 0
  MayVisitTerms f terms = MayCallEach VisitsTerm MayVisitTerm f terms
