-- What is left of a list, and what terms stand behind others.
use Rattle.std.proofs.Common.{◌≡◌, ◌&&◌, ℕ, zero, suc, ◌+◌, ◌-◌, ◌<◌, Bool, true, false, List, [], ◌∷◌, ◌++◌, drop, get_or, length, map, take, None, Some, refl, ap, subst, sym, ◌∙◌, add-one, append_assoc, arith, inl, inr}
use Rattle.std.specs.Prelude.{All, T, slice_get}
use Rattle.std.specs.declared.cmp.Ordering.{Ordering}
use Rattle.std.specs.declared.cmp.Ordering.TheVariants.{Less, Equal, Greater}
use Rattle.std.specs.BTreeMap.{insert_entry}
use Rattle.std.specs.BTreeMap.Comparable.{le_lt_trans}
use Rattle.std.specs.FinMap.{entries, entries-from_sorted, from_entries, from_sorted, get-from_entries, get-from_sorted, same_map}
use Rattle.std.specs.FinMap.Entries.{below_all, is_sorted}
use Rattle.std.specs.List.{AllByRecursion, flat_map}
use Rattle.std.specs.List.Sorted.{IsStrictlySortedBy}
use Rattle.std.specs.Map.{keys_of}
use Rattle.std.specs.Ordering.{is_le, is_lt, match_ordering, ordering_reverse}
use Rattle.std.proofs.Math.Seq.{drop-cons}
use Rattle.std.proofs.lemmas.Bool.{cases_Bool}
use Rattle.std.proofs.lemmas.List.{get_or-map, length-map}
use Rattle.std.proofs.lemmas.List.Folds.{list_all_at}
use Rattle.std.proofs.lemmas.List.Sums.{list_all-from_AllPass}
use Rattle.std.proofs.lemmas.Option.{same_Some, slice_get_within}
use Rattle.qm_schema.specs.Term.{TermKey, term_cmp, term_cmp_antisymmetric, term_cmp_total}
use Rattle.qm_store.specs.Weights.{is_last}

-- ---- one after the other

drop-suc : {A : Type 0} (xs : List A) (k : ℕ) (x : A) → slice_get xs k ≡ Some x → drop k xs ≡ x ∷ drop (suc k) xs
drop-suc [] k x is = absurd (cc is)
drop-suc (y ∷ ys) zero x is = ap (λ z. z ∷ ys) (same_Some y x is)
drop-suc (y ∷ ys) (suc k) x is = drop-suc ys k x is

take-suc : {A : Type 0} (xs : List A) (k : ℕ) (x : A) → slice_get xs k ≡ Some x → take (suc k) xs ≡ take k xs ++ x ∷ []
take-suc [] k x is = absurd (cc is)
take-suc (y ∷ ys) zero x is = ap (λ z. z ∷ []) (same_Some y x is)
take-suc (y ∷ ys) (suc k) x is = ap (λ l. y ∷ l) (take-suc ys k x is)

pub drop-next : {A : Type 0} (xs : List A) (k : ℕ) (x : A) → slice_get xs k ≡ Some x → drop k xs ≡ x ∷ drop (k + 1) xs
drop-next xs k x is = drop-suc xs k x is ∙ ap (λ n. x ∷ drop n xs) (sym (add-one k))

pub take-next : {A : Type 0} (xs : List A) (k : ℕ) (x : A) → slice_get xs k ≡ Some x → take (k + 1) xs ≡ take k xs ++ x ∷ []
take-next xs k x is = ap (λ n. take n xs) (add-one k) ∙ take-suc xs k x is

pub there : {A : Type 0} (xs : List A) (k : ℕ) → k < length xs → slice_get xs k ≡ None → ⊥
there [] k inside none = omega (arith, inside)
there (x ∷ xs) zero inside none = cc
there (x ∷ xs) (suc k) inside none = there xs k (omega (arith, inside)) none

-- one thing more is written
pub written-next : {A : Type 0} (spell : A → List ℕ) (out new all : List ℕ) (xs : List A) (i : ℕ) (d : A) → i < length xs →
    new ≡ out ++ spell (get_or xs i d) → out ++ flat_map spell (drop i xs) ≡ all → new ++ flat_map spell (drop (i + 1) xs) ≡ all
written-next spell out new all xs i d inside added so_far =
    let x = get_or xs i d in
    let cut = drop-cons xs i d inside ∙ ap (λ n. x ∷ drop n xs) (sym (add-one i)) in
    ap (λ l. l ++ flat_map spell (drop (i + 1) xs)) added ∙ append_assoc out (spell x) (flat_map spell (drop (i + 1) xs))
    ∙ ap (λ l. out ++ flat_map spell l) (sym cut) ∙ so_far

-- ---- terms behind others

less : (o : Ordering) → is_lt o ≡ true → o ≡ Less
less Less h = refl
less Equal h = absurd (cc h)
less Greater h = absurd (cc h)

turned : (s t : TermKey) → is_lt (term_cmp s t) ≡ true → term_cmp t s ≡ Greater
turned s t h = term_cmp_total.antisymm t s ∙ ap ordering_reverse (less (term_cmp s t) h)

and-parts : (a b : Bool) → (a && b) ≡ true → (a ≡ true) × (b ≡ true)
and-parts true b h = (refl, h)
and-parts false b h = absurd (cc h)

-- a term behind all others is put behind them
pub put-last : (es : List (TermKey × ℕ)) (t : TermKey) (n : ℕ) → is_last es t ≡ true → insert_entry term_cmp es t n ≡ es ++ (t, n) ∷ []
put-last [] t n last = refl
put-last (e ∷ es) t n last =
    let both = and-parts (is_lt (term_cmp e.0 t)) (is_last es t) last in
    ap (λ o. match_ordering o ((t, n) ∷ e ∷ es) ((e.0, n) ∷ es) (e ∷ insert_entry term_cmp es t n)) (turned e.0 t both.0)
    ∙ ap (λ l. e ∷ l) (put-last es t n both.1)

-- what is no later than a term that is before another
before : (q last t : TermKey) → is_lt (term_cmp last q) ≡ false → term_cmp last t ≡ Less → is_lt (term_cmp q t) ≡ true
before q last t late early =
    let o = term_cmp_total.antisymm q last in
    ap is_lt (le_lt_trans term_cmp_total q last t (ap is_le o ∙ turned_back (term_cmp last q) late) early)
  where
    turned_back : (o : Ordering) → is_lt o ≡ false → is_le (ordering_reverse o) ≡ true
    turned_back Less h = absurd (cc h)
    turned_back Equal h = refl
    turned_back Greater h = refl

-- a term stands behind all others where it stands behind the last
pub last-shown : (es : List (TermKey × ℕ)) (last t : TermKey) (n : ℕ) → slice_get es (length es - 1) ≡ Some (last, n) →
    All (λ q. is_lt (term_cmp last q) ≡ false) (keys_of es) → is_lt (term_cmp last t) ≡ is_last es t
last-shown es last t n found late = elim (cases_Bool (is_lt (term_cmp last t))) [
  | inl early ↦ early ∙ sym (list_all-from_AllPass (λ w. is_lt (term_cmp w.0 t)) es (λ k d inside.
      before (get_or es k d).0 last t (ap (λ q. is_lt (term_cmp last q)) (sym (get_or-map (λ e. e.0) es k d d.0 inside))
      ∙ late k d.0 (omega (arith, inside, length-map es (λ e. e.0)))) (less (term_cmp last t) early)))
  | inr not_early ↦ not_early ∙ sym (list_all_at (λ w. is_lt (term_cmp w.0 t)) es (length es - 1) (last, n) (slice_get_within es (length es - 1) (last, n) found)
      (ap (λ w. is_lt (term_cmp w.0 t)) (at es (length es - 1) found) ∙ not_early))
]
  where
    at : (xs : List (TermKey × ℕ)) (k : ℕ) → slice_get xs k ≡ Some (last, n) → get_or xs k (last, n) ≡ (last, n)
    at [] k is = refl
    at (x ∷ xs) zero is = same_Some x (last, n) is
    at (x ∷ xs) (suc k) is = at xs k is

-- ---- the entries of a map from terms are those that it is made of

below : (s : TermKey) (es : List (TermKey × ℕ)) → AllByRecursion (λ t. term_cmp s t ≡ Less) (map (λ e. e.0) es) → below_all term_cmp s es ≡ true
below s [] each = refl
below s (e ∷ es) each = ap (λ o. is_lt o && below_all term_cmp s es) each.0 ∙ below s es each.1

sorted : (es : List (TermKey × ℕ)) → IsStrictlySortedBy term_cmp (map (λ e. e.0) es) → is_sorted term_cmp es ≡ true
unfolding IsStrictlySortedBy
sorted [] up = refl
sorted (e ∷ es) up = ap (λ b. b && is_sorted term_cmp es) (below e.0 es up.0) ∙ sorted es up.1

pub own-entries : (es : List (TermKey × ℕ)) → IsStrictlySortedBy term_cmp (map (λ e. e.0) es) → entries (from_entries {R = term_cmp} es) ≡ es
own-entries es up =
    let rise = subst T (sym (sorted es up)) tt in
    ap entries (same_map term_cmp_total term_cmp_antisymmetric (from_entries es) (from_sorted es)
    (λ q. get-from_entries term_cmp_total es q ∙ sym (get-from_sorted term_cmp es q rise)))
    ∙ entries-from_sorted term_cmp es rise
