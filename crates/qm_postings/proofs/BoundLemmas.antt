-- The bounds of blocks, as they are made and as they are read.
use Rattle.std.proofs.Common.{◌≡◌, ℕ, zero, suc, ◌+◌, ◌-◌, ◌*◌, ◌<◌, ◌≤◌, true, false, cond, sum, List, [], ◌∷◌, ◌++◌, length, length-append, map, get_or, take}
use Rattle.std.proofs.Common.{drop, min, sym, ap, refl, subst, ◌∙◌, arith, inl, inr, length-drop}
use Rattle.std.specs.Prelude.{nat_lt}
use Rattle.std.specs.List.{flat_map, fold}
use Rattle.std.proofs.Math.Seq.{drop-append-add, take-append_seam}
use Rattle.std.proofs.lemmas.Bool.{cases_lt, le-ltb, lt-ltb}
use Rattle.std.proofs.lemmas.List.{append-nil, append_assoc, get_or-map, get_or_default, length-map, length-take, take-map, take_all}
use Rattle.std.proofs.lemmas.List.Concat.{flat_map-cons}
use Rattle.std.proofs.lemmas.List.Sums.{fold_more, sum_by-le}
use Rattle.qm_postings.specs.Kept.{end_of, greatest, least, least_id, piece}
use Rattle.qm_postings.proofs.BlockLemmas.{end_inside, end_last, more_block}
use Rattle.qm_postings.proofs.FrequencyParts.{each-most}
use Rattle.qm_postings.proofs.PositionSums.{sum-between}
use Rattle.qm_docset.specs.declared.numbers.TheConstants.{TERMINATED}

pub least-none : (ids : List ℕ) → 255 ≡ least_id ids []
unfolding least_id least
least-none ids = refl

pub least-more : (ids ds : List ℕ) (i : ℕ) (d : ℕ) → i < length ds →
    least_id ids (take (i + 1) ds) ≡ min (least_id ids (take i ds)) (get_or ids (get_or ds i d) 1)
unfolding least_id least
least-more ids ds i d l =
    let f : ℕ → ℕ = λ x. get_or ids x 1 in
    ap (fold min 255) (sym (take-map f (i + 1) ds)) ∙ fold_more min 255 (map f ds) i 0 (omega (arith, length-map ds f))
    ∙ (λ j. min (fold min 255 (take-map f i ds j)) (get_or-map f ds i d 0 l j))

-- the part of a list from the start of a block to its end is the block
pub part-piece : (bl b n : ℕ) (xs : List ℕ) → length xs ≡ n → take (b * bl + min bl (n - b * bl) - b * bl) (drop (b * bl) xs) ≡ piece bl b xs
unfolding piece
part-piece bl b n xs long =
    let width : b * bl + min bl (n - b * bl) - b * bl ≡ min bl (n - b * bl) = omega arith in
    ap (λ k. take k (drop (b * bl) xs)) width ∙ elim (cases_lt (n - b * bl) bl) [
      | inl fewer ↦ ap (λ k. take k (drop (b * bl) xs)) (omega arith) ∙ take_all (n - b * bl) (drop (b * bl) xs) (omega (arith, length-drop (b * bl) xs))
          ∙ sym (take_all bl (drop (b * bl) xs) (omega (arith, length-drop (b * bl) xs)))
      | inr whole ↦ ap (λ k. take k (drop (b * bl) xs)) (omega arith)
    ]

pub end-inside : (bl b : ℕ) (ds : List ℕ) → b * bl + min bl (length ds - b * bl) < length ds →
    get_or ds (b * bl + min bl (length ds - b * bl) - 1) 0 ≡ end_of bl ds b
end-inside bl b ds l =
    let end : b * bl + min bl (length ds - b * bl) ≡ (b + 1) * bl = omega (arith, more_block b bl) in
    ap (λ k. get_or ds (k - 1) 0) end ∙ sym (end_inside bl ds b (omega arith))

pub end-last : (bl b : ℕ) (ds : List ℕ) → length ds ≤ b * bl + min bl (length ds - b * bl) → TERMINATED ≡ end_of bl ds b
end-last bl b ds l = sym (end_last bl ds b (omega (arith, more_block b bl)))

-- the document before a place, or the end where that place is the end, is the end of the block
pub end_before_place : (bl b : ℕ) (ds : List ℕ) →
    cond (nat_lt (b * bl + min bl (length ds - b * bl)) (length ds)) (get_or ds (b * bl + min bl (length ds - b * bl) - 1) 0) TERMINATED ≡ end_of bl ds b
end_before_place bl b ds =
    let end = b * bl + min bl (length ds - b * bl) in
    elim (cases_lt end (length ds)) [
      | inl inside ↦ let is : nat_lt end (length ds) ≡ true = lt-ltb end (length ds) inside in rw is (end-inside bl b ds inside)
      | inr last ↦ let is : nat_lt end (length ds) ≡ false = le-ltb end (length ds) last in rw is (end-last bl b ds last)
    ]

-- ---- the sums of frequencies

-- the sum of 32-bit numbers, and of those of a range behind them
pub sum-fits-more : (total start end : ℕ) (fs part : List ℕ) → total ≤ start * 4294967295 → part ≡ take (end - start) (drop start fs) →
    start ≤ end → end ≤ length fs → greatest part ≤ 4294967295 → total + sum part ≤ end * 4294967295
sum-fits-more total start end fs part before is forwards within most =
    let own = sum_by-le (λ x. x) 4294967295 part (λ k d l. subst (λ x. x ≤ 4294967295) (get_or_default part k 0 d l) (omega (arith, each-most part k, most))) in
    omega (arith, own, before, ap length is ∙ length-take (end - start) (drop start fs), length-drop start fs)

-- the sum up to a block and that of the block come to the sum up to the next
pub sum-more : (bl b : ℕ) (fs : List ℕ) → b * bl ≤ length fs → sum (take (b * bl) fs) + sum (piece bl b fs) ≡ sum (take ((b + 1) * bl) fs)
unfolding piece
sum-more bl b fs within =
    let width : (b + 1) * bl - b * bl ≡ bl = omega (arith, more_block b bl) in
    ap (λ n. sum (take (b * bl) fs) + sum (take n (drop (b * bl) fs))) (sym width) ∙ sum-between (b * bl) ((b + 1) * bl) fs (omega (arith, more_block b bl))

-- ---- the bounds of all terms

pub flat-more : {X A : Type 0} (f : X → List A) (xs : List X) (i : ℕ) (d : X) →
    i < length xs → flat_map f (take (i + 1) xs) ≡ flat_map f (take i xs) ++ f (get_or xs i d)
flat-more f [] i d l = absurd (omega arith)
flat-more f (x ∷ xs) zero d l = flat_map-cons f x [] ∙ append-nil (f x)
flat-more f (x ∷ xs) (suc i) d l =
    let n : suc i + 1 ≡ suc (i + 1) = omega arith in
    ap (λ k. flat_map f (take k (x ∷ xs))) n ∙ flat_map-cons f x (take (i + 1) xs) ∙ ap (λ ys. f x ++ ys) (flat-more f xs i d (omega arith))
    ∙ sym (append_assoc (f x) (flat_map f (take i xs)) (f (get_or xs i d))) ∙ ap (λ ys. ys ++ f (get_or xs i d)) (sym (flat_map-cons f x (take i xs)))

pub flat-piece : {X A : Type 0} (f : X → List A) (xs : List X) (i : ℕ) (d : X) → i < length xs →
    take (length (f (get_or xs i d))) (drop (length (flat_map f (take i xs))) (flat_map f xs)) ≡ f (get_or xs i d)
flat-piece f [] i d l = absurd (omega arith)
flat-piece f (x ∷ xs) zero d l = ap (take (length (f x))) (flat_map-cons f x xs) ∙ take-append_seam (f x) (flat_map f xs)
flat-piece f (x ∷ xs) (suc i) d l =
    let at : length (flat_map f (x ∷ take i xs)) ≡ length (f x) + length (flat_map f (take i xs)) = ap length (flat_map-cons f x (take i xs))
    ∙ length-append (f x) (flat_map f (take i xs)) in
    (λ j. take (length (f (get_or xs i d))) (drop (at j) (flat_map-cons f x xs j)))
    ∙ ap (take (length (f (get_or xs i d)))) (drop-append-add (f x) (flat_map f xs) (length (flat_map f (take i xs))))
    ∙ flat-piece f xs i d (omega arith)
