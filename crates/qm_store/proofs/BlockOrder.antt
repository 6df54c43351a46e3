-- Blocks that begin with terms in order are searched by halving.
use Rattle.std.proofs.Common.{◌≡◌, ℕ, zero, suc, ◌-◌, ◌<◌, ◌≤◌, ◌&&◌, Bool, true, false, not, List, [], ◌∷◌, add-one, cond, length, get_or, take, map, ◌++◌, is_some, option_map, slice_get, Option, None, Some, unwrap_or, refl, ap, sym, ◌∙◌, arith, Ordering, Less, Equal, Greater, is_lt}
use Rattle.std.specs.List.Sorted.{IsPartitionPoint, IsPartitionedBy, IsSortedBy}
use Rattle.std.specs.Ordering.{is_gt, ordering_index, ordering_reverse}
use Rattle.std.proofs.lemmas.Bool.{and_from, false≢true}
use Rattle.std.proofs.lemmas.List.Sorted.{searchable_from_sorted}
use Rattle.qm_schema.specs.Term.{TermKey, term_cmp, term_cmp_total}
use Rattle.qm_store.specs.Dictionary.{Block, ascend, block_for, is_behind, last_of, start_of}
use Rattle.qm_store.specs.declared.dictionary_index.BlockStart.{BlockStart}

-- both of two tests that hold together
pub parts : (a b : Bool) → (a && b) ≡ true → (a ≡ true) × (b ≡ true)
parts true b e = (refl, e)
parts false b e = absurd (false≢true e)

abbrev first : BlockStart → TermKey
first s = (start_of s).first

next_behind : (ss : List BlockStart) (before : Option TermKey) (k : ℕ) (d : BlockStart) → ascend before (map start_of ss) ≡ true →
    suc k < length ss → is_lt (term_cmp (first (get_or ss k d)) (first (get_or ss (suc k) d))) ≡ true
next_behind [] before k d up inside = absurd (omega (arith, inside))
next_behind (s ∷ []) before k d up inside = absurd (omega (arith, inside))
next_behind (s ∷ u ∷ ss) before zero d up inside = (parts _ _ (parts _ _ up).1).0
next_behind (s ∷ u ∷ ss) before (suc k) d up inside = next_behind (u ∷ ss) (Some (first s)) k d (parts _ _ up).1 (omega (arith, inside))

turned : (o : Ordering) → is_lt o ≡ true → is_lt (ordering_reverse o) ≡ false
turned Less e = refl
turned Equal e = absurd (false≢true e)
turned Greater e = absurd (false≢true e)

in_order : (ss : List BlockStart) → ascend None (map start_of ss) ≡ true → IsSortedBy (λ a b. is_lt (term_cmp (first a) (first b))) ss
in_order ss up = λ k d _ inside.
    ap (λ n. is_lt (term_cmp (first (get_or ss n d)) (first (get_or ss k d)))) (add-one k)
    ∙ ap is_lt (term_cmp_total.antisymm (first (get_or ss (suc k) d)) (first (get_or ss k d)))
    ∙ turned _ (next_behind ss None k d up (omega (arith, inside)))

index_of : (o : Ordering) → not (is_gt o) ≡ true → ordering_index o ≤ 1
index_of Less e = omega arith
index_of Equal e = omega arith
index_of Greater e = absurd (false≢true e)

by_index : (o : Ordering) → ordering_index o ≤ 1 → not (is_gt o) ≡ true
by_index Less e = refl
by_index Equal e = refl
by_index Greater e = absurd (omega (arith, e))

-- those that begin with a term or before it stand in front
pub parted : (ss : List BlockStart) (t : TermKey) → ascend None (map start_of ss) ≡ true → IsPartitionedBy (λ s. not (is_gt (term_cmp (first s) t))) ss
parted ss t up i j d order inside late =
    let rises = searchable_from_sorted term_cmp_total first ss t (in_order ss up) i j d order inside in
    let low = index_of _ late in
    by_index _ (omega (arith, rises, low))

-- so the last of them is the one that has the term
pub last-of-these : (ss : List BlockStart) (t : TermKey) (n : ℕ) → n ≤ length ss →
    IsPartitionPoint (λ s. not (is_gt (term_cmp (first s) t)) ≡ true) (λ s. not (is_gt (term_cmp (first s) t)) ≡ false) ss n →
    block_for t (map start_of ss) ≡ last_of (take n (map start_of ss))
last-of-these [] t zero within point = refl
last-of-these [] t (suc n) within point = absurd (omega (arith, within))
last-of-these (s ∷ ss) t zero within point = behind (is_gt (term_cmp (first s) t)) (point.1 0 s (omega arith) (omega arith))
  where
    behind : (b : Bool) → not b ≡ false → cond b None (Some (unwrap_or (block_for t (map start_of ss)) (start_of s))) ≡ None
    behind true e = refl
    behind false e = absurd (false≢true (sym e))
last-of-these (s ∷ ss) t (suc n) within point =
    before (is_gt (term_cmp (first s) t)) (point.0 0 s (omega arith) (omega arith))
    ∙ ap (λ b. Some (unwrap_or b (start_of s))) (last-of-these ss t n (omega (arith, within))
    ((λ k d low high. point.0 (suc k) d (omega arith) (omega (arith, high))), (λ k d low high. point.1 (suc k) d (omega (arith, low)) (omega (arith, high)))))
  where
    before : (b : Bool) → not b ≡ true → cond b None (Some (unwrap_or (block_for t (map start_of ss)) (start_of s)))
        ≡ Some (unwrap_or (block_for t (map start_of ss)) (start_of s))
    before true e = absurd (false≢true e)
    before false e = refl

-- the last of so many
pub last-taken : (ss : List BlockStart) (n : ℕ) (d : BlockStart) → suc n ≤ length ss →
    last_of (take (suc n) (map start_of ss)) ≡ Some (start_of (get_or ss n d))
last-taken [] n d within = absurd (omega (arith, within))
last-taken (s ∷ ss) zero d within = refl
last-taken (s ∷ ss) (suc n) d within = ap (λ b. Some (unwrap_or b (start_of s))) (last-taken ss n d (omega (arith, within)))

-- the last of all, as a vector shows it
pub last_shown : (ss : List BlockStart) → last_of (map start_of ss) ≡ option_map start_of (slice_get ss (length ss - 1))
last_shown [] = refl
last_shown (s ∷ []) = refl
last_shown (s ∷ u ∷ ss) =
    ap (λ b. Some (unwrap_or b (start_of s))) (last_shown (u ∷ ss))
    ∙ shown (slice_get (u ∷ ss) (length (u ∷ ss) - 1)) (there (u ∷ ss) (length (u ∷ ss) - 1) (omega arith))
    ∙ ap (λ k. option_map start_of (slice_get (s ∷ u ∷ ss) k)) one_less
  where
    one_less : suc (length (u ∷ ss) - 1) ≡ length (s ∷ u ∷ ss) - 1
    one_less = omega arith

    there : (xs : List BlockStart) (k : ℕ) → k < length xs → is_some (slice_get xs k) ≡ true
    there [] k inside = absurd (omega (arith, inside))
    there (x ∷ xs) zero inside = refl
    there (x ∷ xs) (suc k) inside = there xs k (omega (arith, inside))

    shown : (x : Option BlockStart) → is_some x ≡ true → Some (unwrap_or (option_map start_of x) (start_of s)) ≡ option_map start_of x
    shown None e = absurd (false≢true e)
    shown (Some u) e = refl

-- ---- one block more

pub last-pushed : (xs : List Block) (x : Block) → last_of (xs ++ x ∷ []) ≡ Some x
last-pushed [] x = refl
last-pushed (y ∷ ys) x = ap (λ b. Some (unwrap_or b y)) (last-pushed ys x)

-- the term that the last of some blocks begins with, or else one before them
abbrev after : Option TermKey → Option Block → Option TermKey
after before None = before
after before (Some b) = Some b.first

pub after-none : (l : Option Block) → after None l ≡ option_map (λ b. b.first) l
after-none None = refl
after-none (Some b) = refl

pub ascend-pushed : (before : Option TermKey) (xs : List Block) (x : Block) → ascend before xs ≡ true →
    is_behind (after before (last_of xs)) x.first ≡ true → ascend before (xs ++ x ∷ []) ≡ true
ascend-pushed before [] x up behind = and_from _ _ behind refl
ascend-pushed before (y ∷ ys) x up behind =
    and_from _ _ (parts _ _ up).0 (ascend-pushed (Some y.first) ys x (parts _ _ up).1 (ap (λ t. is_behind t x.first) (same (last_of ys)) ∙ behind))
  where
    same : (l : Option Block) → after (Some y.first) l ≡ after before (Some (unwrap_or l y))
    same None = refl
    same (Some b) = refl
