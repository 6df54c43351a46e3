-- A list of what is wanted in order, of which is left out what is meant by something before it: the others are apart, and mean all.
use Rattle.std.proofs.Common.{◌≡◌, ℕ, suc, ◌+◌, ◌==◌, ◌&&◌, ◌||◌, Bool, true, false, not, cond, List, [], ◌∷◌, ◌++◌, get_or, map, refl, ap, sym, ◌∙◌, arith, nat_eq, Ordering, Less, Equal, Greater, is_lt}
use Rattle.std.specs.List.{AllByRecursion, dedup, dedup_from, list_any, starts_with}
use Rattle.std.specs.List.Sorted.{IsPermutation, IsSorted}
use Rattle.std.specs.Ordering.{bool_cmp, eq_by_cmp, ordering_reverse, ordering_then}
use Rattle.std.proofs.lemmas.Bool.{eq-eqb, eqb-true, false≢true}
use Rattle.std.proofs.lemmas.List.Folds.{list_any-append}
use Rattle.std.proofs.lemmas.List.Sorted.{list_any-IsPermutation}
use Rattle.qm_schema.specs.Term.{TermKey, same_term, term_cmp, term_cmp_antisymmetric, term_cmp_total}
use Rattle.qm_store.specs.Wanted.{AreApart, IsBefore, begins_with, is_asked, is_meant, is_wanted, wanted_cmp, wanted_cmp_parts, wanted_cmp_total}
use Rattle.qm_store.specs.declared.wanted.Wanted.{Wanted}
use Rattle.qm_store.proofs.BlockOrder.{parts}
use Rattle.qm_store.proofs.BlocksOf.{not-before}
use Rattle.qm_store.proofs.WantedOrder.{meant-between}

abbrev pub wanted_so : Bool → TermKey → Wanted
wanted_so so t = record { term = t; is_beginning = so }

-- ---- what is meant

text-itself : (bs : List ℕ) → starts_with nat_eq bs bs ≡ true
text-itself [] = refl
text-itself (b ∷ bs) = ap (λ x. x && starts_with nat_eq bs bs) (eq-eqb b b refl) ∙ text-itself bs

-- a wanted term is meant
itself : (w : Wanted) → is_meant w w.term ≡ true
itself w = by_kind w.is_beginning
  where
    by_kind : (b : Bool) → cond b (begins_with w.term w.term) (eq_by_cmp term_cmp w.term w.term) ≡ true
    by_kind false = (same_term w.term w.term).1 refl
    by_kind true = ap (λ x. x && starts_with nat_eq w.term.bytes w.term.bytes) (eq-eqb w.term.field w.term.field refl) ∙ text-itself w.term.bytes

text-through : (front middle text : List ℕ) → starts_with nat_eq middle front ≡ true → starts_with nat_eq text middle ≡ true → starts_with nat_eq text front ≡ true
text-through [] middle text one two = refl
text-through (a ∷ front) [] text one two = absurd (false≢true one)
text-through (a ∷ front) (b ∷ middle) [] one two = absurd (false≢true two)
text-through (a ∷ front) (b ∷ middle) (c ∷ text) one two =
    let first = parts (nat_eq a b) _ one in
    let second = parts (nat_eq b c) _ two in
    let same : a ≡ c = eqb-true a b first.0 ∙ eqb-true b c second.0 in
    ap (λ x. x && starts_with nat_eq text front) (eq-eqb a c same) ∙ text-through front middle text first.1 second.1

through : (s t u : TermKey) → begins_with s t ≡ true → begins_with t u ≡ true → begins_with s u ≡ true
through s t u one two =
    let first = parts (t.field == s.field) _ one in
    let second = parts (u.field == t.field) _ two in
    let same : u.field ≡ s.field = eqb-true u.field t.field second.0 ∙ eqb-true t.field s.field first.0 in
    ap (λ x. x && starts_with nat_eq u.bytes s.bytes) (eq-eqb u.field s.field same) ∙ text-through s.bytes t.bytes u.bytes first.1 second.1

-- ---- in order

-- one does not come behind the other
abbrev Follows : Wanted → Wanted → Type 0
Follows k x = is_lt (wanted_cmp x k) ≡ false

follows-through : (k x y : Wanted) → Follows k x → Follows x y → Follows k y
follows-through k x y one two = by_order (wanted_cmp y k) refl
  where
    by_middle : (o : Ordering) → wanted_cmp k x ≡ o → ¬ (wanted_cmp y k ≡ Less)
    by_middle Less is less = false≢true (sym two ∙ ap is_lt (wanted_cmp_total.trans y k x less is))
    by_middle Equal is less =
        let turned = wanted_cmp_total.antisymm k y ∙ ap ordering_reverse less in
        let other = wanted_cmp_total.antisymm y x ∙ ap ordering_reverse (sym (wanted_cmp_total.congr k x y is) ∙ turned) in
        false≢true (sym two ∙ ap is_lt other)
    by_middle Greater is less = false≢true (sym one ∙ ap is_lt (wanted_cmp_total.antisymm x k ∙ ap ordering_reverse is))

    by_order : (o : Ordering) → wanted_cmp y k ≡ o → is_lt (wanted_cmp y k) ≡ false
    by_order Less is = absurd (by_middle (wanted_cmp k x) refl is)
    by_order Equal is = ap is_lt is
    by_order Greater is = ap is_lt is

-- its term does not come behind the other's
term-follows : (k x : Wanted) → Follows k x → ¬ (term_cmp x.term k.term ≡ Less)
term-follows k x late less =
    let early = wanted_cmp_parts x k ∙ ap (λ o. ordering_then o (bool_cmp (not x.is_beginning) (not k.is_beginning))) less in
    false≢true (sym late ∙ ap is_lt early)

-- and of one term what is behind the term alone is that term alone
alone-follows : (k x : Wanted) → Follows k x → x.term ≡ k.term → k.is_beginning ≡ false → x.is_beginning ≡ false
alone-follows k x late same alone = by_kind x.is_beginning refl
  where
    by_kind : (b : Bool) → x.is_beginning ≡ b → b ≡ false
    by_kind false is = refl
    by_kind true is =
        let tied : term_cmp x.term k.term ≡ Equal = ap (λ t. term_cmp t k.term) same ∙ tied-itself in
        let early = wanted_cmp_parts x k ∙ (λ i. ordering_then (tied i) (bool_cmp (not (is i)) (not (alone i)))) in
        absurd (false≢true (sym late ∙ ap is_lt early))
      where
        tied-itself : term_cmp k.term k.term ≡ Equal
        tied-itself = by_order (term_cmp k.term k.term) refl
          where
            by_order : (o : Ordering) → term_cmp k.term k.term ≡ o → o ≡ Equal
            by_order Less e = absurd (not-before k.term k.term e e)
            by_order Equal e = refl
            by_order Greater e =
                let other = term_cmp_total.antisymm k.term k.term ∙ ap ordering_reverse e in
                absurd (not-before k.term k.term other other)

-- what is meant by something that is meant itself
covers : (k x : Wanted) → Follows k x → is_meant k x.term ≡ true → (t : TermKey) → is_meant x t ≡ true → is_meant k t ≡ true
covers k x late meant t is = by_kinds k.is_beginning refl x.is_beginning refl meant is
  where
    by_kinds : (a : Bool) → k.is_beginning ≡ a → (b : Bool) → x.is_beginning ≡ b → cond a (begins_with k.term x.term) (eq_by_cmp term_cmp x.term k.term) ≡ true →
        cond b (begins_with x.term t) (eq_by_cmp term_cmp t x.term) ≡ true → cond a (begins_with k.term t) (eq_by_cmp term_cmp t k.term) ≡ true
    by_kinds true ka true xb one two = through k.term x.term t one two
    by_kinds true ka false xb one two = ap (begins_with k.term) ((same_term t x.term).0 two) ∙ one
    by_kinds false ka true xb one two = absurd (false≢true (sym (alone-follows k x late ((same_term x.term k.term).0 one) ka) ∙ xb))
    by_kinds false ka false xb one two = ap (λ u. eq_by_cmp term_cmp u k.term) ((same_term t x.term).0 two) ∙ one

-- what is not meant stands behind
stands-before : (k x : Wanted) → Follows k x → is_meant k x.term ≡ false → IsBefore k x
stands-before k x late other = (by_order (term_cmp k.term x.term) refl, other)
  where
    by_order : (o : Ordering) → term_cmp k.term x.term ≡ o → o ≡ Less
    by_order Less is = refl
    by_order Equal is = absurd (false≢true (sym other ∙ ap (is_meant k) (sym (term_cmp_antisymmetric k.term x.term is)) ∙ itself k))
    by_order Greater is = absurd (term-follows k x late (term_cmp_total.antisymm x.term k.term ∙ ap ordering_reverse is))

before-through : (k x y : Wanted) → IsBefore k x → IsBefore x y → IsBefore k y
before-through k x y one two = (term_cmp_total.trans k.term x.term y.term one.0 two.0, by_test (is_meant k y.term) refl)
  where
    by_test : (b : Bool) → is_meant k y.term ≡ b → b ≡ false
    by_test false is = refl
    by_test true is = absurd (false≢true (sym one.1 ∙ meant-between k x.term y.term (not-before k.term x.term one.0) two.0 is))

-- ---- all of them

-- each follows the one before it, and the first something
abbrev InOrder : Wanted → List Wanted → Type 0
InOrder k [] = Unit {0}
InOrder k (x ∷ xs) = Follows k x × InOrder x xs

from-before : (k x : Wanted) (xs : List Wanted) → Follows k x → InOrder x xs → InOrder k xs
from-before k x [] late are = tt
from-before k x (y ∷ ys) late are = (follows-through k x y late are.0, are.1)

abbrev left_of : Wanted → List Wanted → List Wanted
left_of k xs = dedup_from (λ later before. is_meant before later.term) k xs

all-behind : (k x : Wanted) (xs : List Wanted) → IsBefore k x → InOrder x xs → AllByRecursion (IsBefore k) (left_of x xs)
all-behind k x [] before are = (before, tt)
all-behind k x (y ∷ ys) before are =
    by_test (is_meant x y.term) refl (all-behind k x ys before (from-before x y ys are.0 are.1)) (λ next. all-behind k y ys next are.1)
  where
    by_test : (b : Bool) → is_meant x y.term ≡ b → AllByRecursion (IsBefore k) (left_of x ys) → (IsBefore k y → AllByRecursion (IsBefore k) (left_of y ys)) →
        AllByRecursion (IsBefore k) (cond b (left_of x ys) (x ∷ left_of y ys))
    by_test true is passed kept = passed
    by_test false is passed kept = (before, kept (before-through k x y before (stands-before x y are.0 is)))

left-apart : (k : Wanted) (xs : List Wanted) → InOrder k xs → AreApart (left_of k xs)
left-apart k [] are = (tt, tt)
left-apart k (x ∷ xs) are =
    by_test (is_meant k x.term) refl (left-apart k xs (from-before k x xs are.0 are.1)) (left-apart x xs are.1)
  where
    by_test : (b : Bool) → is_meant k x.term ≡ b → AreApart (left_of k xs) → AreApart (left_of x xs) → AreApart (cond b (left_of k xs) (k ∷ left_of x xs))
    by_test true is passed kept = passed
    by_test false is passed kept = (all-behind k x xs (stands-before k x are.0 is) are.1, kept)

left-means : (k : Wanted) (xs : List Wanted) → InOrder k xs → (t : TermKey) → is_wanted (left_of k xs) t ≡ is_wanted (k ∷ xs) t
left-means k [] are t = refl
left-means k (x ∷ xs) are t = by_test (is_meant k x.term) refl (left-means k xs (from-before k x xs are.0 are.1) t) (left-means x xs are.1 t)
  where
    once : (a b c : Bool) → (b ≡ true → a ≡ true) → (a || c) ≡ (a || (b || c))
    once true b c from = refl
    once false true c from = absurd (false≢true (from refl))
    once false false c from = refl

    by_test : (b : Bool) → is_meant k x.term ≡ b → is_wanted (left_of k xs) t ≡ is_wanted (k ∷ xs) t → is_wanted (left_of x xs) t ≡ is_wanted (x ∷ xs) t →
        is_wanted (cond b (left_of k xs) (k ∷ left_of x xs)) t ≡ is_wanted (k ∷ x ∷ xs) t
    by_test true is passed kept = passed ∙ once (is_meant k t) (is_meant x t) (is_wanted xs t) (covers k x are.0 is t)
    by_test false is passed kept = ap (λ b. is_meant k t || b) kept

in-order : (x : Wanted) (xs : List Wanted) → IsSorted wanted_cmp (x ∷ xs) → InOrder x xs
in-order x [] sorted = tt
in-order x (y ∷ ys) sorted = (
  sorted 0 x (omega arith) (omega arith),
  in-order y ys (λ k d low inside. later k d ∙ sorted (suc k) d (omega arith) (omega (arith, inside))),
)
  where
    later : (k : ℕ) (d : Wanted) → is_lt (wanted_cmp (get_or (y ∷ ys) (k + 1) d) (get_or (y ∷ ys) k d))
        ≡ is_lt (wanted_cmp (get_or (x ∷ y ∷ ys) (suc k + 1) d) (get_or (x ∷ y ∷ ys) (suc k) d))
    later k d =
        let e : suc (k + 1) ≡ suc k + 1 = omega arith in
        ap (λ n. is_lt (wanted_cmp (get_or (x ∷ y ∷ ys) n d) (get_or (y ∷ ys) k d))) e

-- what is left of a list in order
abbrev pub left_all : List Wanted → List Wanted
left_all xs = dedup (λ later before. is_meant before later.term) xs

pub are-apart : (xs : List Wanted) → IsSorted wanted_cmp xs → AreApart (left_all xs)
are-apart [] sorted = tt
are-apart (x ∷ xs) sorted = left-apart x xs (in-order x xs sorted)

pub mean-all : (xs : List Wanted) → IsSorted wanted_cmp xs → (t : TermKey) → is_wanted (left_all xs) t ≡ is_wanted xs t
mean-all [] sorted t = refl
mean-all (x ∷ xs) sorted t = left-means x xs (in-order x xs sorted) t

-- ---- what was asked

mean-alone : (ts : List TermKey) (t : TermKey) → is_wanted (map (wanted_so false) ts) t ≡ list_any (λ u. eq_by_cmp term_cmp t u) ts
mean-alone [] t = refl
mean-alone (u ∷ us) t = ap (λ b. eq_by_cmp term_cmp t u || b) (mean-alone us t)

mean-beginnings : (ts : List TermKey) (t : TermKey) → is_wanted (map (wanted_so true) ts) t ≡ list_any (λ b. begins_with b t) ts
mean-beginnings [] t = refl
mean-beginnings (u ∷ us) t = ap (λ b. begins_with u t || b) (mean-beginnings us t)

pub mean-asked : (terms beginnings : List TermKey) (xs : List Wanted) → IsPermutation (map (wanted_so false) terms ++ map (wanted_so true) beginnings) xs → (t : TermKey) →
    is_wanted xs t ≡ is_asked terms beginnings t
mean-asked terms beginnings xs same t =
    sym (list_any-IsPermutation (λ w. is_meant w t) (map (wanted_so false) terms ++ map (wanted_so true) beginnings) xs same)
    ∙ list_any-append (λ w. is_meant w t) (map (wanted_so false) terms) (map (wanted_so true) beginnings)
    ∙ (λ i. mean-alone terms t i || mean-beginnings beginnings t i)
