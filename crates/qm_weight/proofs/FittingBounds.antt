-- The bounds of trees that fit, node by node: each where what stands inside fits, and only there.
use Rattle.std.specs.Prelude.{◌≡◌, ℕ, ◌+◌, ◌*◌, ◌<◌, ◌≤◌, max, Bool, Option, None, Some, SomeIff, List, [], ◌∷◌, ◌++◌, length, take}
use Rattle.std.proofs.Common.{zero, suc, get_or, arith, refl, ap, sym, subst, ◌∙◌, inl, inr}
use Rattle.std.proofs.lemmas.Bool.{cases_lt}
use Rattle.std.proofs.Math.Nat.{mul_assoc, mul_comm}
use Rattle.qm_docset.specs.Entry.{greatest_score}
use Rattle.qm_schema.specs.declared.error.QueryError.TheVariants.{ScoreBound}
use Rattle.qm_schema.specs.declared.occur.Occur.{Occur}
use Rattle.qm_schema.specs.declared.occur.Occur.TheVariants.{Should, Must, MustNot}
use Rattle.qm_term.specs.Bm25.{Weighing}
use Rattle.qm_weight.specs.Tree.{AreScores, Clauses, ClausesFit, Combiner, Fits, Tree, all, boolean, boost, bound, clause, clause_bounds, constant}
use Rattle.qm_weight.specs.Tree.{leaf_boost, leaf_bound, no_clause, none, phrase, phrase_prefix}
use Rattle.qm_weight.specs.Tree.{term}
use Rattle.qm_weight.specs.ClauseScorers.{bound_added}
use Rattle.qm_weight.specs.Weights.{clauses_by}
use Rattle.qm_weight.proofs.ClauseSteps.{more_clauses, refusal-clause}

-- the bound of a tree that fits is a score
pub fits-bound : (tree : Tree) (b : ℕ) → Fits tree b → bound tree b ≤ greatest_score
fits-bound all b fits = fits.bound_fits
fits-bound none b fits = fits.bound_fits
fits-bound (term t option weight) b fits = fits.bound_fits
fits-bound (phrase terms slop weight) b fits = fits.bound_fits
fits-bound (phrase_prefix full prefix most weight) b fits = fits.bound_fits
fits-bound (boolean scoring minimum combiner clauses) b fits = fits.0.bound_fits
fits-bound (boost k inside) b fits = fits.0.bound_fits
fits-bound (constant s inside) b fits = fits.0.bound_fits

-- what is no score is past the greatest
pub past_score : {n : ℕ} → ¬ (n ≤ greatest_score) → greatest_score < n
past_score {n = n} past = elim (cases_lt greatest_score n) [ inl more ↦ more | inr within ↦ absurd (past within) ]

-- what is said of a bound, and of the tree that it is of
abbrev pub IsBoundOf : Tree → ℕ → Option ℕ → Type 0
IsBoundOf tree b r = SomeIff r (Fits tree b) (bound tree b)

-- ---- boosts and constants

pub bound-boost : (k : ℕ) (inside : Tree) (b : ℕ) (r : Option ℕ) → b * k ≤ greatest_score → IsBoundOf inside (b * k) r → IsBoundOf (boost k inside) b r
bound-boost k inside b None product unfit = λ fits. unfit fits.1
bound-boost k inside b (Some n) product is = ((record { bound_fits = fits-bound inside (b * k) is.0; product_fits = product }, is.0), is.1)

-- ---- Booleans

-- the clauses so far fit at a boost, and those of them that may match have this bound together, which is a score
pub record AreBound (clauses : Clauses) (b sum : ℕ) : Type 0 where
  pub fit : ClausesFit clauses b
  pub is : sum ≡ clause_bounds clauses b
  pub small : sum ≤ greatest_score

bounds-one : (occur : Occur) (tree : Tree) (clauses : Clauses) (b : ℕ) →
    clause_bounds (clause occur tree clauses) b ≡ bound_added occur (bound tree b) + clause_bounds clauses b
bounds-one Should tree clauses b = refl
bounds-one Must tree clauses b = refl
bounds-one MustNot tree clauses b = omega arith

-- of whatever occurs somehow and stands for a tree
module _ {X : Type 0} (occur : X → Occur) (tree : X → Tree) where
  fit-push : (xs : List X) (x : X) (b : ℕ) → ClausesFit (clauses_by occur tree xs) b → Fits (tree x) b → ClausesFit (clauses_by occur tree (xs ++ x ∷ [])) b
  fit-push [] x b fit one = (one, tt)
  fit-push (y ∷ xs) x b fit one = (fit.0, fit-push xs x b fit.1 one)

  bounds-push : (xs : List X) (x : X) (b : ℕ) →
      clause_bounds (clauses_by occur tree (xs ++ x ∷ [])) b ≡ clause_bounds (clauses_by occur tree xs) b + bound_added (occur x) (bound (tree x) b)
  bounds-push [] x b = omega (arith, bounds-one (occur x) (tree x) no_clause b)
  bounds-push (y ∷ xs) x b = omega (
    arith,
    bounds-one (occur y) (tree y) (clauses_by occur tree (xs ++ x ∷ [])) b,
    bounds-one (occur y) (tree y) (clauses_by occur tree xs) b,
    bounds-push xs x b,
  )

  -- the first clauses have no more than all of them
  bounds-take : (n : ℕ) (xs : List X) (b : ℕ) → clause_bounds (clauses_by occur tree (take n xs)) b ≤ clause_bounds (clauses_by occur tree xs) b
  bounds-take zero xs b = omega arith
  bounds-take (suc n) [] b = omega arith
  bounds-take (suc n) (y ∷ xs) b = omega (
    arith,
    bounds-one (occur y) (tree y) (clauses_by occur tree (take n xs)) b,
    bounds-one (occur y) (tree y) (clauses_by occur tree xs) b,
    bounds-take n xs b,
  )

  -- one clause more
  pub bound-step : (xs : List X) (i : ℕ) (x : X) (b sum n : ℕ) → x ≡ get_or xs i x → i < length xs →
      AreBound (clauses_by occur tree (take i xs)) b sum → Fits (tree x) b → n ≡ bound_added (occur x) (bound (tree x) b) →
      sum + n ≤ greatest_score → AreBound (clauses_by occur tree (take (i + 1) xs)) b (sum + n)
  bound-step xs i x b sum n is within far one more small =
      let next = more_clauses xs i x is within in
      record {
        fit = subst (λ ys. ClausesFit (clauses_by occur tree ys) b) (sym next) (fit-push (take i xs) x b far.fit one);
        is = omega (arith, far.is, more, bounds-push (take i xs) x b, ap (λ ys. clause_bounds (clauses_by occur tree ys) b) next);
        small = small;
      }

  -- a clause that doesn't fit leaves the Boolean unfit
  pub unfit-clause : (scoring : Bool) (minimum : ℕ) (combiner : Combiner) (xs : List X) (i : ℕ) (x : X) (b : ℕ) →
      x ≡ get_or xs i x → i < length xs → ¬ Fits (tree x) b → ¬ Fits (boolean scoring minimum combiner (clauses_by occur tree xs)) b
  unfit-clause scoring minimum combiner xs i x b is within unfit = λ fits. refusal-clause occur tree xs i x b ScoreBound is within unfit fits.1

  -- and so do clauses whose bounds together are no score
  pub unfit-sum : (scoring : Bool) (minimum : ℕ) (combiner : Combiner) (xs : List X) (i : ℕ) (x : X) (b sum n : ℕ) →
      x ≡ get_or xs i x → i < length xs → AreBound (clauses_by occur tree (take i xs)) b sum → n ≡ bound_added (occur x) (bound (tree x) b) →
      greatest_score < sum + n → ¬ Fits (boolean scoring minimum combiner (clauses_by occur tree xs)) b
  unfit-sum scoring minimum combiner xs i x b sum n is within far more past = λ fits.
      absurd (omega (
        arith,
        past,
        far.is,
        more,
        bounds-push (take i xs) x b,
        ap (λ ys. clause_bounds (clauses_by occur tree ys) b) (more_clauses xs i x is within),
        bounds-take (i + 1) xs b,
        fits.0.bound_fits,
      ))

-- ---- leaves

-- a boost, times the greatest score of a weight
products : (b k w : ℕ) → k * b * w ≡ b * (k * w)
products b k w = ap (λ n. n * w) (mul_comm k b) ∙ mul_assoc b k w

pub unfit-weighed : (b : ℕ) (weight : Weighing) → ¬ (b * (weight.boost * weight.weight) ≤ greatest_score) →
    ¬ AreScores (leaf_bound (Some weight) b) (leaf_boost (Some weight) b)
unfit-weighed b weight past = λ fits. past (omega (arith, fits.bound_fits, products b weight.boost weight.weight))

pub fits-weighed : (b : ℕ) (weight : Weighing) → b * weight.boost ≤ greatest_score → b * (weight.boost * weight.weight) ≤ greatest_score →
    AreScores (leaf_bound (Some weight) b) (leaf_boost (Some weight) b)
fits-weighed b weight product fits = record {
  bound_fits = omega (arith, fits, products b weight.boost weight.weight);
  product_fits = omega (arith, product, mul_comm b weight.boost);
}

pub bound-weighed : (b : ℕ) (weight : Weighing) → max 1 (b * (weight.boost * weight.weight)) ≡ leaf_bound (Some weight) b
bound-weighed b weight = ap (λ n. max 1 n) (sym (products b weight.boost weight.weight))
