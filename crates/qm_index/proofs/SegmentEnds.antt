-- The numbers behind the last document of each segment, and the document of a number by these.
use Rattle.std.proofs.Common.{◌≡◌, ℕ, zero, suc, ◌+◌, ◌<◌, ◌≤◌, true, false, List, [], ◌∷◌, ◌++◌, length, take, set, get_or, Some, slice_get}
use Rattle.std.proofs.Common.{refl, sym, ap, ◌∙◌, arith, leb, leb-false, leb-true, add-one, subst, inl, inr}
use Rattle.std.specs.List.Sorted.{IsNonDecreasingBy, IsPartitionPoint, IsPartitionedBy}
use Rattle.std.proofs.lemmas.Bool.{cases_lt}
use Rattle.std.proofs.lemmas.List.{take_all}
use Rattle.std.proofs.lemmas.List.Sorted.{IsPartitionedBy-leb}
use Rattle.std.proofs.lemmas.List.Sums.{sum_by-cons, sum_by_more}
use Rattle.qm_postings.specs.Reading.{Reader, deleting}
use Rattle.qm_index.specs.Numbers.{document_count, ends_from}

pub length-ends : (first : ℕ) (rs : List Reader) → length (ends_from first rs) ≡ length rs
length-ends first [] = refl
length-ends first (r ∷ rs) = ap suc (length-ends (first + length r.segment.documents) rs)

-- the one of the segment at a place
pub ends-at : (first : ℕ) (rs : List Reader) (k d : ℕ) → k < length rs → get_or (ends_from first rs) k d ≡ first + document_count (take (suc k) rs)
ends-at first [] k d below = absurd (omega (arith, below))
ends-at first (r ∷ rs) zero d below = omega (arith, sum_by-cons (λ x. length x.segment.documents) r [])
ends-at first (r ∷ rs) (suc k) d below =
    ends-at (first + length r.segment.documents) rs k d (omega (arith, below))
    ∙ omega (arith, sum_by-cons (λ x. length x.segment.documents) r (take (suc k) rs))

-- those of so many segments
pub ends-take : (first k : ℕ) (rs : List Reader) → take k (ends_from first rs) ≡ ends_from first (take k rs)
ends-take first zero rs = refl
ends-take first (suc k) [] = refl
ends-take first (suc k) (r ∷ rs) = ap (λ l. (first + length r.segment.documents) ∷ l) (ends-take (first + length r.segment.documents) k rs)

-- with one segment more
pub ends-push : (first : ℕ) (rs : List Reader) (r : Reader) →
    ends_from first (rs ++ r ∷ []) ≡ ends_from first rs ++ (first + (document_count rs + length r.segment.documents)) ∷ []
ends-push first [] r = let same : first + length r.segment.documents ≡ first + (document_count [] + length r.segment.documents) = omega arith in ap (λ n. n ∷ []) same
ends-push first (q ∷ rs) r =
    let next = first + length q.segment.documents in
    let same : next + (document_count rs + length r.segment.documents) ≡ first + (document_count (q ∷ rs) + length r.segment.documents) =
    omega (arith, sum_by-cons (λ x. length x.segment.documents) q rs) in
    ap (λ ns. next ∷ ns) (ends-push next rs r ∙ ap (λ n. ends_from next rs ++ n ∷ []) same)

-- a deletion changes none of them
pub ends-set : (first : ℕ) (rs : List Reader) (k d : ℕ) (r : Reader) → slice_get rs k ≡ Some r →
    ends_from first (set rs k (deleting r d)) ≡ ends_from first rs
ends-set first [] k d r there = refl
ends-set first (q ∷ rs) zero d r there =
    let same : r ≡ q = cc in
    ap (λ x. (first + length x.segment.documents) ∷ ends_from (first + length x.segment.documents) rs) same
ends-set first (q ∷ rs) (suc k) d r there =
    ap (λ ns. (first + length q.segment.documents) ∷ ns) (ends-set (first + length q.segment.documents) rs k d r there)

-- they don't fall
pub ends-rise : (first : ℕ) (rs : List Reader) → IsNonDecreasingBy (λ n. n) (ends_from first rs)
ends-rise first [] i j d order inside = absurd (omega (arith, inside))
ends-rise first (r ∷ rs) zero zero d order inside = omega arith
ends-rise first (r ∷ rs) (suc i) zero d order inside = absurd (omega (arith, order))
ends-rise first (r ∷ rs) zero (suc j) d order inside =
    let next = first + length r.segment.documents in
    let inside_rs : j < length rs = omega (arith, inside, length-ends next rs) in
    omega (arith, ends-at next rs j d inside_rs)
ends-rise first (r ∷ rs) (suc i) (suc j) d order inside =
    ends-rise (first + length r.segment.documents) rs i j d (omega (arith, order)) (omega (arith, inside))

-- a search among them parts those that are not past a number from the others
pub ends-parted : (rs : List Reader) (ends : List ℕ) (n place : ℕ) → ends ≡ ends_from 0 rs →
    (IsPartitionedBy (λ e. leb e n) ends → IsPartitionPoint (λ e. leb e n ≡ true) (λ e. leb e n ≡ false) ends place) →
    IsPartitionPoint (λ e. leb e n ≡ true) (λ e. leb e n ≡ false) (ends_from 0 rs) place
ends-parted rs ends n place same parts =
    subst (λ es. IsPartitionPoint (λ e. leb e n ≡ true) (λ e. leb e n ≡ false) es place) same
    (parts (IsPartitionedBy-leb (λ e. e) ends n (subst (IsNonDecreasingBy (λ e. e)) (sym same) (ends-rise 0 rs))))

-- The segment of a document, by these: it ends behind it, and those before it don't.
module _ (rs : List Reader) (n : ℕ) where
  starts_from : (p : ℕ) → p ≤ length rs → ((k d : ℕ) → 0 ≤ k → k < p → leb (get_or (ends_from 0 rs) k d) n ≡ true) → document_count (take p rs) ≤ n
  starts_from zero inside early = omega arith
  starts_from (suc p) inside early =
      let low = leb-true _ _ (early p 0 (omega arith) (omega arith)) in
      omega (arith, low, ends-at 0 rs p 0 (omega (arith, inside)))

  module _ (place : ℕ) (exists : n < document_count rs) (within : place ≤ length rs)
      (point : IsPartitionPoint (λ e. leb e n ≡ true) (λ e. leb e n ≡ false) (ends_from 0 rs) place) where
    pub starts_before : document_count (take place rs) ≤ n
    starts_before = starts_from place within point.0

    pub is_there : place < length rs
    is_there = elim (cases_lt place (length rs)) [
      | inl here ↦ here
      | inr past ↦ absurd (omega (arith, exists, starts_before, ap document_count (take_all place rs past)))
    ]

    pub ends_behind : n < document_count (take (suc place) rs)
    ends_behind =
        let late = leb-false _ _ (point.1 place 0 (omega arith) (omega (arith, is_there, length-ends 0 rs))) in
        omega (arith, late, ends-at 0 rs place 0 is_there)

    -- the last document of it
    module _ (r : Reader) (is : r ≡ get_or rs place r) where
      pub ends-here : (ends : List ℕ) → ends ≡ ends_from 0 rs → get_or ends place 0 ≡ document_count (take place rs) + length r.segment.documents
      ends-here ends same =
          let at = ends-at 0 rs place 0 is_there in
          let more = sum_by_more (λ (x : Reader). length x.segment.documents) rs place r is_there in
          let next = ap (λ k. document_count (take k rs)) (add-one place) in
          let long = ap (λ (x : Reader). length x.segment.documents) is in
          ap (λ es. get_or es place 0) same ∙ omega (arith, at, more, next, long)

      pub is_inside : n < document_count (take place rs) + length r.segment.documents
      is_inside = let here = ends-here (ends_from 0 rs) refl in omega (arith, here, ends_behind, ends-at 0 rs place 0 is_there)
