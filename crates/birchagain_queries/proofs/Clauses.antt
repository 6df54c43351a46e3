-- The clauses of a typed query, one after another: whether they name a field, and what they say.
use Rattle.std.proofs.Common.{◌≡◌, ◌<◌, ◌≤◌, ◌+◌, ◌||◌, ◌∙◌, ℕ, zero, suc, Bool, true, false, List, [], ◌∷◌, ap, arith, drop, get_or, length, map, refl, sym}
use Rattle.std.proofs.lemmas.List.{drop_more}
use Rattle.std.specs.List.{drop-map}
use Rattle.qm_parser.specs.Query.{clauses_of}
use Rattle.qm_parser.specs.Query as typed
use Rattle.qm_parser.specs.Views.{clause_of, query_of}
use Rattle.qm_parser.specs.declared.parsed_query.ParsedQuery.{ParsedQuery}
use Rattle.qm_parser.specs.declared.parsed_query.Sign.{Sign}
use Rattle.qm_schema.specs.declared.occur.Occur.{Occur}
use Rattle.qm_script.specs.Script as script
use Rattle.birchagain_queries.specs.Translation.{have_field, names_field, occur_of, said_clauses, said_query}

-- ---- what is left of a list

pub drop_mapped : {A B : Type 0} (f : A → B) (xs : List A) (i : ℕ) (x d : A) → i < length xs →
    x ≡ get_or xs i d → drop i (map f xs) ≡ f x ∷ drop (i + 1) (map f xs)
drop_mapped f xs i x d below is = drop-map f i xs ∙ ap (map f) (drop_more xs i d below) ∙ (λ j. f (sym is j) ∷ sym (drop-map f (i + 1) xs) j)

drop_past : {A : Type 0} (xs : List A) (i : ℕ) → length xs ≤ i → drop i xs ≡ []
drop_past [] zero h = refl
drop_past [] (suc i) h = refl
drop_past (x ∷ xs) zero h = absurd (omega arith)
drop_past (x ∷ xs) (suc i) h = drop_past xs i (omega arith)

pub none_left : {A B : Type 0} (f : A → B) (xs : List A) (i : ℕ) → length xs ≤ i → drop i (map f xs) ≡ []
none_left f xs i past = drop-map f i xs ∙ ap (map f) (drop_past xs i past)

-- ---- fields

module _ (xs : List (Sign × ParsedQuery)) (i : ℕ) (whole : Bool) where
  abbrev left : ℕ → Bool
  left n = have_field (clauses_of (drop n (map clause_of xs)))

  module _ (x : Sign × ParsedQuery) (below : i < length xs) (is : x ≡ get_or xs i x) where
    next : left i ≡ (names_field (query_of x.1) || left (i + 1))
    next = ap (λ l. have_field (clauses_of l)) (drop_mapped clause_of xs i x x below is)

    pub fields-step : names_field (query_of x.1) ≡ false → left i ≡ whole → left (i + 1) ≡ whole
    fields-step none kept = ap (λ b. b || left (i + 1)) (sym none) ∙ sym next ∙ kept

    pub fields-found : names_field (query_of x.1) ≡ true → left i ≡ whole → whole ≡ true
    fields-found some kept = sym kept ∙ next ∙ ap (λ b. b || left (i + 1)) some

  pub fields-done : length xs ≤ i → left i ≡ whole → whole ≡ false
  fields-done past kept = sym kept ∙ ap (λ l. have_field (clauses_of l)) (none_left clause_of xs i past)

-- ---- what they say

abbrev pub said_clause : Sign × ParsedQuery → Occur × script.Query
said_clause c = (occur_of c.0, said_query (query_of c.1))

pub said-clauses : (xs : List (Sign × ParsedQuery)) → said_clauses (clauses_of (map clause_of xs)) ≡ script.as_clauses (map said_clause xs)
said-clauses [] = refl
said-clauses (x ∷ xs) = ap (script.clause (occur_of x.0) (said_query (query_of x.1))) (said-clauses xs)
