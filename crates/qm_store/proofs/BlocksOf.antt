-- Which blocks may have a wanted term: they are found by halving, and stand one behind the other.
use Rattle.std.proofs.Common.{◌≡◌, ℕ, zero, suc, ◌+◌, ◌-◌, ◌<◌, ◌≤◌, Bool, true, false, not, cond, List, [], ◌∷◌, ◌++◌, drop, get_or, length, map, take, Option, Some, refl, ap, sym, subst, ◌∙◌, arith, inl, inr, Ordering, Less, Equal, Greater, is_lt}
use Rattle.std.specs.Prelude.{filter, option_to_list}
use Rattle.std.specs.List.Sorted.{IsPartitionPoint, IsPartitionedBy}
use Rattle.std.specs.Ordering.{is_gt, ordering_reverse}
use Rattle.std.proofs.lemmas.Bool.{and_from, cases_lt, false≢true}
use Rattle.qm_schema.specs.Term.{TermKey, term_cmp, term_cmp_total}
use Rattle.qm_store.specs.Dictionary.{Block, ascend, blocks_behind, last_of, start_of}
use Rattle.qm_store.specs.Wanted.{is_meant}
use Rattle.qm_store.specs.declared.dictionary_index.BlockStart.{BlockStart}
use Rattle.qm_store.specs.declared.wanted.Wanted.{Wanted}
use Rattle.qm_store.proofs.BlockOrder.{parts}
use Rattle.qm_store.proofs.WantedOrder.{meant-between}

-- ---- a list that a test parts

module _ {X Y : Type 0} (p : Y → Bool) (f : X → Y) where
  abbrev kept : Bool → Y → List Y → List Y
  kept b y ys = cond b (y ∷ ys) ys

  -- those in front pass
  pub taken : (xs : List X) (n : ℕ) → n ≤ length xs → IsPartitionPoint (λ x. p (f x) ≡ true) (λ x. p (f x) ≡ false) xs n →
      filter p (map f xs) ≡ take n (map f xs)
  taken [] zero within point = refl
  taken [] (suc n) within point = absurd (omega (arith, within))
  taken (x ∷ xs) zero within point =
      ap (λ b. kept b (f x) (filter p (map f xs))) (point.1 0 x (omega arith) (omega arith))
      ∙ taken xs zero (omega arith) ((λ k d low high. absurd (omega (arith, high))), (λ k d low high. point.1 (suc k) d (omega (arith, low)) (omega (arith, high))))
  taken (x ∷ xs) (suc n) within point =
      ap (λ b. kept b (f x) (filter p (map f xs))) (point.0 0 x (omega arith) (omega arith))
      ∙ ap (λ l. f x ∷ l) (taken xs n (omega (arith, within))
      ((λ k d low high. point.0 (suc k) d (omega arith) (omega (arith, high))), (λ k d low high. point.1 (suc k) d (omega (arith, low)) (omega (arith, high)))))

  turned : (b : Bool) (c : Bool) → not b ≡ c → b ≡ not c
  turned true true e = sym e
  turned true false e = refl
  turned false true e = refl
  turned false false e = sym e

  -- those in front don't, and all others do
  pub left : (xs : List X) (n : ℕ) → n ≤ length xs → IsPartitionPoint (λ x. not (p (f x)) ≡ true) (λ x. not (p (f x)) ≡ false) xs n →
      filter p (map f xs) ≡ drop n (map f xs)
  left [] zero within point = refl
  left [] (suc n) within point = absurd (omega (arith, within))
  left (x ∷ xs) zero within point =
      ap (λ b. kept b (f x) (filter p (map f xs))) (turned (p (f x)) false (point.1 0 x (omega arith) (omega arith)))
      ∙ ap (λ l. f x ∷ l) (left xs zero (omega arith)
      ((λ k d low high. absurd (omega (arith, high))), (λ k d low high. point.1 (suc k) d (omega (arith, low)) (omega (arith, high)))))
  left (x ∷ xs) (suc n) within point =
      ap (λ b. kept b (f x) (filter p (map f xs))) (turned (p (f x)) true (point.0 0 x (omega arith) (omega arith)))
      ∙ left xs n (omega (arith, within))
      ((λ k d low high. point.0 (suc k) d (omega arith) (omega (arith, high))), (λ k d low high. point.1 (suc k) d (omega (arith, low)) (omega (arith, high))))

-- ---- terms in order

pub less-is : (o : Ordering) → is_lt o ≡ true → o ≡ Less
less-is Less e = refl
less-is Equal e = absurd (false≢true e)
less-is Greater e = absurd (false≢true e)

pub greater-is : (o : Ordering) → is_gt o ≡ true → o ≡ Greater
greater-is Less e = absurd (false≢true e)
greater-is Equal e = absurd (false≢true e)
greater-is Greater e = refl

pub later-greater : (s t : TermKey) → term_cmp s t ≡ Less → is_gt (term_cmp t s) ≡ true
later-greater s t less = ap is_gt (term_cmp_total.antisymm t s ∙ ap ordering_reverse less)

pub greater-later : (s t : TermKey) → is_gt (term_cmp t s) ≡ true → term_cmp s t ≡ Less
greater-later s t late = term_cmp_total.antisymm s t ∙ ap ordering_reverse (greater-is (term_cmp t s) late)

pub not-before : (s t : TermKey) → term_cmp s t ≡ Less → ¬ (term_cmp t s ≡ Less)
not-before s t less other = let wrong = sym (later-greater s t less) ∙ ap is_gt other in cc

-- ---- blocks that begin behind a term

-- all of those behind one that does
later : (t s : TermKey) (bs : List Block) → term_cmp t s ≡ Less → ascend (Some s) bs ≡ true → blocks_behind t bs ≡ bs
later t s [] less up = refl
later t s (b ∷ bs) less up =
    let own = parts _ _ up in
    let behind = term_cmp_total.trans t s b.first less (less-is (term_cmp s b.first) own.0) in
    ap (λ x. cond x (b ∷ blocks_behind t bs) (blocks_behind t bs)) (later-greater t b.first behind) ∙ ap (λ l. b ∷ l) (later t b.first bs behind own.1)

pub behind-ascends : (t : TermKey) (before : Option TermKey) (bs : List Block) → ascend before bs ≡ true → ascend (Some t) (blocks_behind t bs) ≡ true
behind-ascends t before [] up = refl
behind-ascends t before (b ∷ bs) up = by_first (is_gt (term_cmp b.first t)) refl (behind-ascends t (Some b.first) bs (parts _ _ up).1)
  where
    by_first : (x : Bool) → is_gt (term_cmp b.first t) ≡ x → ascend (Some t) (blocks_behind t bs) ≡ true →
        ascend (Some t) (cond x (b ∷ blocks_behind t bs) (blocks_behind t bs)) ≡ true
    by_first false e others = others
    by_first true e others =
        let less = greater-later t b.first e in
        and_from _ _ (ap is_lt less) (ap (ascend (Some b.first)) (later t b.first bs less (parts _ _ up).1) ∙ (parts _ _ up).1)

-- ---- those that begin with a term that is meant

abbrev first : BlockStart → TermKey
first s = (start_of s).first

each-behind : (t : TermKey) (ss : List BlockStart) (k : ℕ) (d : BlockStart) → ascend (Some t) (map start_of ss) ≡ true → k < length ss →
    term_cmp t (first (get_or ss k d)) ≡ Less
each-behind t [] k d up inside = absurd (omega (arith, inside))
each-behind t (s ∷ ss) zero d up inside = less-is (term_cmp t (first s)) (parts _ _ up).0
each-behind t (s ∷ ss) (suc k) d up inside =
    let own = parts _ _ up in
    term_cmp_total.trans t (first s) (first (get_or ss k d)) (less-is (term_cmp t (first s)) own.0) (each-behind (first s) ss k d own.1 (omega (arith, inside)))

in-turn : (before : Option TermKey) (ss : List BlockStart) (i j : ℕ) (d : BlockStart) → ascend before (map start_of ss) ≡ true → i < j → j < length ss →
    term_cmp (first (get_or ss i d)) (first (get_or ss j d)) ≡ Less
in-turn before [] i j d up order inside = absurd (omega (arith, inside))
in-turn before (s ∷ ss) i zero d up order inside = absurd (omega (arith, order))
in-turn before (s ∷ ss) zero (suc j) d up order inside = each-behind (first s) ss j d (parts _ _ up).1 (omega (arith, inside))
in-turn before (s ∷ ss) (suc i) (suc j) d up order inside = in-turn (Some (first s)) ss i j d (parts _ _ up).1 (omega (arith, order)) (omega (arith, inside))

pub meant-parted : (w : Wanted) (ss : List BlockStart) → ascend (Some w.term) (map start_of ss) ≡ true → IsPartitionedBy (λ s. is_meant w (first s)) ss
meant-parted w ss up i j d order inside late = elim (cases_lt i j) [
  | inl before ↦
      meant-between w (first (get_or ss i d)) (first (get_or ss j d))
      (not-before w.term (first (get_or ss i d)) (each-behind w.term ss i d up (omega (arith, before, inside)))) (in-turn (Some w.term) ss i j d up before inside) late
  | inr not_before ↦
      let same : j ≡ i = omega (arith, order, not_before) in
      subst (λ k. is_meant w (first (get_or ss k d)) ≡ true) same late
]

-- ---- all of them, one behind the other

joined : (bs : List Block) (k m : ℕ) → suc k ≤ length bs → take (suc m) (drop k bs) ≡ option_to_list (last_of (take (suc k) bs)) ++ take m (drop (suc k) bs)
joined [] k m within = absurd (omega (arith, within))
joined (b ∷ bs) zero m within = refl
joined (b ∷ []) (suc k) m within = absurd (omega (arith, within))
joined (b ∷ c ∷ bs) (suc k) m within = joined (c ∷ bs) k m (omega (arith, within))

pub spanned : (bs : List Block) (n m low : ℕ) → n ≤ length bs → low ≡ n - 1 →
    take (n + m - low) (drop low bs) ≡ option_to_list (last_of (take n bs)) ++ take m (drop n bs)
spanned bs zero m low within is =
    let e : zero + m - low ≡ m = omega (arith, is) in
    let f : low ≡ zero = omega (arith, is) in
    λ i. take (e i) (drop (f i) bs)
spanned bs (suc k) m low within is =
    let e : suc k + m - low ≡ suc m = omega (arith, is) in
    let f : low ≡ k = omega (arith, is) in
    (λ i. take (e i) (drop (f i) bs)) ∙ joined bs k m within
