-- Rows in order of which those are taken that are wanted, by several wanted ones that are apart.
use Rattle.std.proofs.Common.{◌≡◌, ℕ, ◌||◌, Bool, true, false, cond, List, [], ◌∷◌, ◌++◌, map, Some, refl, ap, sym, ◌∙◌, Ordering, Less, Equal, Greater}
use Rattle.std.specs.List.{AllByRecursion, flat_map}
use Rattle.std.specs.List.Sorted.{IsStrictlySortedBy}
use Rattle.std.specs.Ordering.{ordering_reverse}
use Rattle.std.proofs.lemmas.Bool.{false≢true}
use Rattle.qm_postings.specs.Restriction.{rows_wanted}
use Rattle.qm_postings.specs.Rows.{Row}
use Rattle.qm_schema.specs.Schema.{FieldFacts}
use Rattle.qm_schema.specs.Term.{TermKey, term_cmp, term_cmp_antisymmetric, term_cmp_total}
use Rattle.qm_store.specs.Dictionary.{Block, blocks_of}
use Rattle.qm_store.specs.StoredSegment.{rows_of, rows_of_blocks, rows_then}
use Rattle.qm_store.specs.Wanted.{AreApart, IsBefore, is_meant, is_wanted}
use Rattle.qm_store.specs.declared.wanted.Wanted.{Wanted}
use Rattle.qm_store.proofs.BlocksOf.{not-before}
use Rattle.qm_store.proofs.StoredRead.{term_of}
use Rattle.qm_store.proofs.WantedOrder.{meant-between, meant-past}

-- ---- what is meant by one stands before what is meant by another behind it

-- a term is before another one, or it, or behind it
three-ways : (x t : TermKey) (P : Type 0) → (term_cmp x t ≡ Less → P) → (x ≡ t → P) → (term_cmp t x ≡ Less → P) → P
three-ways x t P before same behind = by_order (term_cmp x t) refl
  where
    by_order : (o : Ordering) → term_cmp x t ≡ o → P
    by_order Less is = before is
    by_order Equal is = same (term_cmp_antisymmetric x t is)
    by_order Greater is = behind (term_cmp_total.antisymm t x ∙ ap ordering_reverse is)

-- what is meant is before something behind the wanted term that is not meant
before-other : (w : Wanted) (u x : TermKey) → term_cmp w.term u ≡ Less → is_meant w u ≡ false → is_meant w x ≡ true → term_cmp x u ≡ Less
before-other w u x less other meant = three-ways x u (term_cmp x u ≡ Less) (λ is. is)
    (λ same. absurd (false≢true (sym other ∙ ap (is_meant w) (sym same) ∙ meant)))
    (λ behind. absurd (false≢true (sym other ∙ meant-between w u x (not-before w.term u less) behind meant)))

one-before : (w u : Wanted) (x y : TermKey) → IsBefore w u → is_meant w x ≡ true → is_meant u y ≡ true → term_cmp x y ≡ Less
one-before w u x y before own other =
    let less = before-other w u.term x before.0 before.1 own in
    three-ways y u.term (term_cmp x y ≡ Less) (λ early. absurd (meant-past u y other early)) (λ same. ap (term_cmp x) same ∙ less)
    (λ behind. term_cmp_total.trans x u.term y less behind)

all-before : (w : Wanted) (ws : List Wanted) (x y : TermKey) → AllByRecursion (IsBefore w) ws → is_meant w x ≡ true → is_wanted ws y ≡ true → term_cmp x y ≡ Less
all-before w [] x y before own other = absurd (false≢true other)
all-before w (u ∷ us) x y before own other = by_first (is_meant u y) refl (all-before w us x y before.1 own) other
  where
    by_first : (b : Bool) → is_meant u y ≡ b → (is_wanted us y ≡ true → term_cmp x y ≡ Less) → (b || is_wanted us y) ≡ true → term_cmp x y ≡ Less
    by_first true is on other = one-before w u x y before.0 own is
    by_first false is on other = on other

-- ---- rows in order

module _ (p q : TermKey → Bool) (apart : (x y : TermKey) → p x ≡ true → q y ≡ true → term_cmp x y ≡ Less) where
  -- behind a row of the others there is none of the first
  none-left : (r : Row) (rs : List Row) → q r.term ≡ true → AllByRecursion (λ u. term_cmp r.term u ≡ Less) (map term_of rs) → rows_wanted p rs ≡ []
  none-left r [] is less = refl
  none-left r (s ∷ rs) is less = by_test (p s.term) refl (none-left r rs is less.1)
    where
      by_test : (b : Bool) → p s.term ≡ b → rows_wanted p rs ≡ [] → cond b (s ∷ rows_wanted p rs) (rows_wanted p rs) ≡ []
      by_test false other rest = rest
      by_test true own rest = absurd (not-before r.term s.term less.0 (apart s.term r.term own is))

  both : (rs : List Row) → IsStrictlySortedBy term_cmp (map term_of rs) → rows_wanted p rs ++ rows_wanted q rs ≡ rows_wanted (λ t. p t || q t) rs
  unfolding IsStrictlySortedBy
  both [] sorted = refl
  both (r ∷ rs) sorted = by_tests (p r.term) refl (q r.term) refl (both rs sorted.1) (λ is. none-left r rs is sorted.0)
    where
      rest : List Row
      rest = rows_wanted q rs

      all : List Row
      all = rows_wanted (λ t. p t || q t) rs

      by_tests : (a : Bool) → p r.term ≡ a → (b : Bool) → q r.term ≡ b → rows_wanted p rs ++ rest ≡ all → (q r.term ≡ true → rows_wanted p rs ≡ []) →
          cond a (r ∷ rows_wanted p rs) (rows_wanted p rs) ++ cond b (r ∷ rest) rest ≡ cond (a || b) (r ∷ all) all
      by_tests true own true other joined none = absurd (irreflexive (apart r.term r.term own other))
        where
          irreflexive : ¬ (term_cmp r.term r.term ≡ Less)
          irreflexive less = not-before r.term r.term less less
      by_tests true own false other joined none = ap (λ l. r ∷ l) joined
      by_tests false own true other joined none = ap (λ l. l ++ (r ∷ rest)) (none other) ∙ ap (λ l. r ∷ l) (ap (λ l. l ++ rest) (sym (none other)) ∙ joined)
      by_tests false own false other joined none = joined

none-wanted : (rows : List Row) → [] ≡ rows_wanted (is_wanted []) rows
none-wanted [] = refl
none-wanted (r ∷ rs) = none-wanted rs

-- the rows of each that is wanted, one behind the other, are the rows of all
pub rows-apart : (rows : List Row) (ws : List Wanted) → IsStrictlySortedBy term_cmp (map term_of rows) → AreApart ws →
    flat_map (λ w. rows_wanted (is_meant w) rows) ws ≡ rows_wanted (is_wanted ws) rows
rows-apart rows [] sorted are = none-wanted rows
rows-apart rows (w ∷ ws) sorted are =
    ap (λ l. rows_wanted (is_meant w) rows ++ l) (rows-apart rows ws sorted are.1)
    ∙ both (is_meant w) (is_wanted ws) (λ x y own other. all-before w ws x y are.0 own other) rows sorted

-- ---- as they are read

pub each-read : (key : ℕ) (file : List ℕ) (schema : List FieldFacts) (blocks : List Block) (rows : List Row) →
    ((w : Wanted) → rows_of_blocks key file schema (Some w) (blocks_of w blocks) ≡ Some (rows_wanted (is_meant w) rows)) → (ws : List Wanted) →
    rows_of key file schema blocks ws ≡ Some (flat_map (λ w. rows_wanted (is_meant w) rows) ws)
each-read key file schema blocks rows each [] = refl
each-read key file schema blocks rows each (w ∷ ws) = λ i. rows_then (each w i) (each-read key file schema blocks rows each ws i)
