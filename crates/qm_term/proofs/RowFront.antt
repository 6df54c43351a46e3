-- The first records of a row, which stand at or before a document: their sums and their blocks' ends.
use Rattle.std.proofs.Common.{◌≡◌, ℕ, zero, suc, ◌+◌, ◌<◌, ◌≤◌, List, [], ◌∷◌, drop, length, get_or, map, min, ap, arith, refl, sym, leb, false, true}
use Rattle.std.specs.Prelude.{All}
use Rattle.std.specs.List.Sorted.{IsNonDecreasingBy}
use Rattle.std.proofs.lemmas.Bool.{le-leb, lt-leb}
use Rattle.qm_docset.specs.declared.numbers.TheConstants.{TERMINATED}
use Rattle.qm_combine.proofs.WindowWords.{get_or-there as any}
use Rattle.qm_term.specs.Heads.{AreKnown, AreRecords, IsFront, listed}
use Rattle.qm_term.specs.Members.{Member, bound_at, end_at, total}
use Rattle.qm_term.specs.Pivot.{head, pivot_bound, pivot_bounds, skip, skip_by}
use Rattle.qm_term.specs.declared.wand.heads.Head.{Head}
use Rattle.qm_term.proofs.WandBounds.{skip-cons, skip_le_end, total-cons, total-nil}
use Rattle.qm_term.proofs.WandRows.{rest_at, rest_end}

pub bound_here : (p : ℕ) (m : Member) → head m ≤ p → pivot_bound p m ≡ bound_at p m.blocks
bound_here p m h = let t : leb (head m) p ≡ true = le-leb (head m) p h in rw t refl

pub bound_past : (p : ℕ) (m : Member) → p < head m → pivot_bound p m ≡ 0
bound_past p m h = let t : leb (head m) p ≡ false = lt-leb (head m) p h in rw t refl

module _ {X : Type 0} (m : X → Member) (f : Member → ℕ) where
  none_of : (xs : List X) → ((k : ℕ) (d : X) → k < length xs → f (m (get_or xs k d)) ≡ 0) → total f (map m xs) ≡ 0
  none_of [] h = total-nil f
  none_of (x ∷ xs) h = omega (arith, total-cons f (m x) (map m xs), h 0 x (omega arith), none_of xs (λ k d l. h (suc k) d (omega arith)))

  -- those from a place on add nothing
  pub none_from : (n : ℕ) (xs : List X) → ((k : ℕ) (d : X) → n ≤ k → k < length xs → f (m (get_or xs k d)) ≡ 0) → total f (map m (drop n xs)) ≡ 0
  none_from zero xs h = none_of xs (λ k d l. h k d (omega arith) l)
  none_from (suc n) [] h = total-nil f
  none_from (suc n) (x ∷ xs) h = none_from n xs (λ k d from l. h (suc k) d (omega arith) (omega arith))

-- the documents of the lists are those of the records
module _ (ms : List Member) (hs : List Head) (r : AreRecords ms hs) (n p : ℕ) (f : IsFront n p hs) where
  pub front_at : (k : ℕ) (d : Head) → k < n → head (listed ms (get_or hs k d)) ≤ p
  front_at k d l = omega (arith, (r.each k d (omega (arith, l, f.within))).doc, f.front k d l)

  pub other_at : (k : ℕ) (d : Head) → n ≤ k → k < length hs → p < head (listed ms (get_or hs k d))
  other_at k d from l = omega (arith, (r.each k d l).doc, f.others k d from l)

  pub bounds_rest : (k : ℕ) → n ≤ k → pivot_bounds p (map (listed ms) (drop k hs)) ≡ 0
  bounds_rest k from = none_from (listed ms) (pivot_bound p) k hs (λ j d l inside. bound_past p (listed ms (get_or hs j d)) (other_at j d (omega arith) inside))

-- ---- how far to skip

-- a block that is known ends where its record says
pub known_end : (ms : List Member) (hs : List Head) (n p : ℕ) → AreRecords ms hs → IsFront n p hs → AreKnown n p hs →
    (k : ℕ) (d : Head) → k < n → skip_by p (listed ms (get_or hs k d)) ≡ suc (get_or hs k d).block_end
known_end ms hs n p r f known k d l =
    let h = get_or hs k d in
    let here : leb (head (listed ms h)) p ≡ true = le-leb (head (listed ms h)) p (front_at ms hs r n p f k d l) in
    let end : end_at p (listed ms h).blocks ≡ h.block_end = (r.each k d (omega (arith, l, f.within))).end p (known k d l).0 (known k d l).1 in
    rw here (ap suc end)

pub end_more : (ms : List Member) (hs : List Head) (n p : ℕ) → AreRecords ms hs →
    IsFront n p hs → AreKnown n p hs → (k : ℕ) (d : Head) → k < n → (least end new all : ℕ)
    → new ≡ min least end → min TERMINATED end ≡ min TERMINATED (suc (get_or hs k d).block_end) → least ≤ TERMINATED →
    min least (skip p (map (listed ms) (drop k hs))) ≡ all → min new (skip p (map (listed ms) (drop (k + 1) hs))) ≡ all
end_more ms hs n p r f known k d l least end new all e g low i =
    omega (
      arith,
      ap (skip p) (rest_at (listed ms) hs k d (omega (arith, l, f.within))),
      skip-cons p (listed ms (get_or hs k d))
          (map (listed ms) (drop (k + 1) hs)),
      skip_le_end p (map (listed ms) (drop (k + 1) hs)),
      known_end ms hs n p r f known k d l,
    )

-- where all stand past p, the least head is the skip
skip_ge : {X : Type 0} (m : X → Member) (p low : ℕ) (xs : List X) → low ≤ TERMINATED →
    ((k : ℕ) (d : X) → k < length xs → (p < head (m (get_or xs k d))) × (low ≤ head (m (get_or xs k d)))) → low ≤ skip p (map m xs)
unfolding skip
skip_ge m p low [] l h = l
skip_ge m p low (x ∷ xs) l h =
    let past : leb (head (m x)) p ≡ false = lt-leb (head (m x)) p (h 0 x (omega arith)).0 in
    let here : skip_by p (m x) ≡ head (m x) = rw past refl in
    omega (arith, here, (h 0 x (omega arith)).1, skip_ge m p low xs l (λ k d i. h (suc k) d (omega arith)))

skip_ge_from : {X : Type 0} (m : X → Member) (p low n : ℕ) (xs : List X) → low ≤ TERMINATED →
    ((k : ℕ) (d : X) → n ≤ k → k < length xs → (p < head (m (get_or xs k d))) × (low ≤ head (m (get_or xs k d)))) → low ≤ skip p (map m (drop n xs))
skip_ge_from m p low zero xs l h = skip_ge m p low xs l (λ k d i. h k d (omega arith) i)
skip_ge_from m p low (suc n) [] l h = omega (arith, skip_ge m p low [] l (λ k d i. absurd (omega arith)))
skip_ge_from m p low (suc n) (x ∷ xs) l h = skip_ge_from m p low n xs l (λ k d from i. h (suc k) d (omega arith) (omega arith))

pub skip_next : (ms : List Member) (hs : List Head) (n p : ℕ) (d : Head) → AreRecords ms hs → IsNonDecreasingBy (λ (h : Head). h.doc) hs →
    All (λ (h : Head). h.doc ≤ TERMINATED) hs → IsFront n p hs → n < length hs → (get_or hs n d).doc ≡ skip p (map (listed ms) (drop n hs))
skip_next ms hs n p d r sorted below f l =
    let m = listed ms (get_or hs n d) in
    let past : leb (head m) p ≡ false = lt-leb (head m) p (other_at ms hs r n p f n d (omega arith) l) in
    let here : skip_by p m ≡ head m = rw past refl in
    let is : (get_or hs n d).doc ≡ head m = (r.each n d l).doc in
    let low : (get_or hs n d).doc ≤ TERMINATED = below n d l in
    let ge : (get_or hs n d).doc ≤ skip p (map (listed ms) (drop n hs)) =
    skip_ge_from (listed ms) p (get_or hs n d).doc n hs low
    (λ k e from i. (other_at ms hs r n p f k e from i, omega (arith, sorted n k d from i, (r.each k e i).doc, ap (λ (h : Head). h.doc) (any hs k d e i)))) in
    omega (arith, ge, is, here, ap (skip p) (rest_at (listed ms) hs n d l), skip-cons p m (map (listed ms) (drop (n + 1) hs)))

pub skip_none : (ms : List Member) (hs : List Head) (n p : ℕ) → length hs ≤ n → TERMINATED ≡ skip p (map (listed ms) (drop n hs))
unfolding skip
skip_none ms hs n p l = sym (ap (skip p) (rest_end (listed ms) hs n l))
