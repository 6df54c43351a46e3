-- How what is gathered changes as the lists lose their first documents, and that the order of the
-- lists is of no consequence.
use Rattle.std.proofs.Common.{◌≡◌, ℕ, zero, suc, ◌+◌, ◌<◌, ◌≤◌, List, [], ◌∷◌, ◌++◌, length, map, ap, sym, ◌∙◌, append_assoc, arith, inl, inr}
use Rattle.std.specs.List.{range_with_len}
use Rattle.std.specs.List.Sorted.{IsPermutation}
use Rattle.std.proofs.lemmas.Bool.{cases_lt}
use Rattle.std.proofs.lemmas.List.Sorted.{IsPermutation-refl, IsPermutation-trans, IsPermutation-append_left, IsPermutation-append_right}
use Rattle.std.proofs.lemmas.List.Sorted.{IsPermutation-append_comm, length_permutation}
use Rattle.qm_docset.specs.Entry.{Entry, from, head_document}
use Rattle.qm_docset.specs.EntryFacts.{from-nil, from-keep, from-skip}
use Rattle.qm_docset.specs.Gather.{scored, entries_of, scores_at, documents_below, gathered, gather, IsBare}
use Rattle.qm_docset.specs.GatherFacts.{scores_at-cons, gathered-nil, gathered-keep, gathered-skip}
pub use Rattle.qm_docset.specs.SeekFacts.{entries_of-from, entries_of-from_past, scores_at-from, scores_at-from_past}
use Rattle.qm_docset.specs.declared.numbers.TheConstants.{TERMINATED}
use Rattle.qm_docset.proofs.Permuted.{IsPermutation-along}

-- Lists that say the same of each document gather to the same, under counts and combinations that
-- agree on what they say.
gathered-same : (least others : ℕ) (combined other : List ℕ → ℕ) (ds : List ℕ) (xss yss : List (List Entry)) →
    ((d : ℕ) → (least ≤ length (scores_at d xss) → (others ≤ length (scores_at d yss)) × (combined (scores_at d xss) ≡ other (scores_at d yss))) ×
    (length (scores_at d xss) < least → length (scores_at d yss) < others)) → gathered least combined ds xss ≡ gathered others other ds yss
gathered-same least others combined other [] xss yss same = gathered-nil least combined xss ∙ sym (gathered-nil others other yss)
gathered-same least others combined other (d ∷ ds) xss yss same =
    let rest = gathered-same least others combined other ds xss yss same in
    elim (cases_lt (length (scores_at d xss)) least) [
      | inl few ↦ gathered-skip least combined d ds xss few ∙ rest ∙ sym (gathered-skip others other d ds yss ((same d).1 few))
      | inr enough ↦
          let both = (same d).0 enough in
          gathered-keep least combined d ds xss enough ∙ ap (λ s. scored d s ∷ gathered least combined ds xss) both.1
          ∙ ap (λ r. scored d (other (scores_at d yss)) ∷ r) rest ∙ sym (gathered-keep others other d ds yss both.0)
    ]

pub gather-same : (least others : ℕ) (combined other : List ℕ → ℕ) (xss yss : List (List Entry)) →
    ((d : ℕ) → (least ≤ length (scores_at d xss) → (others ≤ length (scores_at d yss)) × (combined (scores_at d xss) ≡ other (scores_at d yss))) ×
    (length (scores_at d xss) < least → length (scores_at d yss) < others)) → gather least combined xss ≡ gather others other yss
unfolding gather
gather-same least others combined other xss yss same = gathered-same least others combined other (documents_below TERMINATED) xss yss same

-- Dropping below a target what is gathered, and gathering what is left of the lists, is the same.
from-gathered : (least t : ℕ) (combined : List ℕ → ℕ) (ds : List ℕ) (ess : List (List Entry)) →
    1 ≤ least → gathered least combined ds (map (from t) ess) ≡ from t (gathered least combined ds ess)
from-gathered least t combined [] ess h = gathered-nil least combined (map (from t) ess) ∙ sym (ap (from t) (gathered-nil least combined ess) ∙ from-nil t)
from-gathered least t combined (d ∷ ds) ess h =
    let rest = from-gathered least t combined ds ess h in
    let kept = gathered least combined ds ess in
    elim (cases_lt d t) [
      | inl below ↦
          let gone = scores_at-from_past d t ess below in
          let few : length (scores_at d (map (from t) ess)) < least = omega (arith, ap length gone) in
          gathered-skip least combined d ds (map (from t) ess) few ∙ rest ∙ elim (cases_lt (length (scores_at d ess)) least) [
            | inl less ↦ sym (ap (from t) (gathered-skip least combined d ds ess less))
            | inr enough ↦ sym (ap (from t) (gathered-keep least combined d ds ess enough) ∙ from-skip t (scored d (combined (scores_at d ess))) kept below)
          ]
      | inr past ↦
          let stay = scores_at-from d t ess past in
          elim (cases_lt (length (scores_at d ess)) least) [
            | inl less ↦
                let few : length (scores_at d (map (from t) ess)) < least = omega (arith, ap length stay) in
                gathered-skip least combined d ds (map (from t) ess) few ∙ rest ∙ sym (ap (from t) (gathered-skip least combined d ds ess less))
            | inr enough ↦
                let many : least ≤ length (scores_at d (map (from t) ess)) = omega (arith, ap length stay) in
                gathered-keep least combined d ds (map (from t) ess) many ∙ ap (λ s. scored d (combined s) ∷ gathered least combined ds (map (from t) ess)) stay
                ∙ ap (λ r. scored d (combined (scores_at d ess)) ∷ r) rest
                ∙ sym (ap (from t) (gathered-keep least combined d ds ess enough) ∙ from-keep t (scored d (combined (scores_at d ess))) kept past)
          ]
    ]

pub gather-from : (least t : ℕ) (combined : List ℕ → ℕ) (ess : List (List Entry)) →
    1 ≤ least → gather least combined (map (from t) ess) ≡ from t (gather least combined ess)
unfolding gather
gather-from least t combined ess h = from-gathered least t combined (documents_below TERMINATED) ess h

-- Where no document below a target is in enough of the lists, nothing is dropped.
pub gather-bare : (least t : ℕ) (combined : List ℕ → ℕ) (ess : List (List Entry)) → 1 ≤ least →
    IsBare least t ess → from t (gather least combined ess) ≡ gather least combined ess
gather-bare least t combined ess h bare =
    sym (gather-from least t combined ess h) ∙ gather-same least least combined combined (map (from t) ess) ess (λ d.
    elim (cases_lt d t) [
      | inl below ↦
          let gone = scores_at-from_past d t ess below in
          ((λ enough. absurd (omega (arith, ap length gone))), (λ few. bare d below))
      | inr past ↦
          let stay = scores_at-from d t ess past in
          ((λ enough. (omega (arith, ap length stay), ap combined stay)), (λ few. omega (arith, ap length stay)))
    ])

-- A pass over the members that leaves each with what it had from a target on, and no document below
-- it in enough of them, drops what is gathered below the target.
pub gather-pass : (least t : ℕ) (combined : List ℕ → ℕ) (old new : List (List Entry)) → 1 ≤ least → IsBare least t new →
    map (from t) new ≡ map (from t) old → gather least combined new ≡ from t (gather least combined old)
gather-pass least t combined old new h bare same =
    sym (gather-bare least t combined new h bare) ∙ sym (gather-from least t combined new h)
    ∙ ap (gather least combined) same ∙ gather-from least t combined old h

-- What is gathered begins with the first document that enough of the lists have.
from-gathered_past : (least t a n : ℕ) (combined : List ℕ → ℕ) (ess : List (List Entry)) → t ≤ a →
    from t (gathered least combined (range_with_len a n) ess) ≡ gathered least combined (range_with_len a n) ess
from-gathered_past least t a zero combined ess h = ap (from t) (gathered-nil least combined ess) ∙ from-nil t ∙ sym (gathered-nil least combined ess)
from-gathered_past least t a (suc n) combined ess h =
    let ds = range_with_len (a + 1) n in
    let rest = from-gathered_past least t (a + 1) n combined ess (omega arith) in
    elim (cases_lt (length (scores_at a ess)) least) [
      | inl few ↦ ap (from t) (gathered-skip least combined a ds ess few) ∙ rest ∙ sym (gathered-skip least combined a ds ess few)
      | inr enough ↦ ap (from t) (gathered-keep least combined a ds ess enough) ∙ from-keep t (scored a (combined (scores_at a ess)))
          (gathered least combined ds ess) h ∙ ap (λ r. scored a (combined (scores_at a ess)) ∷ r) rest ∙ sym (gathered-keep least combined a ds ess enough)
    ]

gathered-first : (least d a n : ℕ) (combined : List ℕ → ℕ) (ess : List (List Entry)) →
    a ≤ d → d < a + n → IsBare least d ess → least ≤ length (scores_at d ess) →
    gathered least combined (range_with_len a n) ess ≡ scored d (combined (scores_at d ess)) ∷ from (d + 1) (gathered least combined (range_with_len a n) ess)
gathered-first least d a zero combined ess h k bare enough = absurd (omega arith)
gathered-first least d a (suc n) combined ess h k bare enough =
    let ds = range_with_len (a + 1) n in
    elim (cases_lt a d) [
      | inl before ↦
          let skipped = gathered-skip least combined a ds ess (bare a before) in
          skipped ∙ gathered-first least d (a + 1) n combined ess (omega arith) (omega arith) bare enough
          ∙ ap (λ r. scored d (combined (scores_at d ess)) ∷ from (d + 1) r) (sym skipped)
      | inr reached ↦
          let here : d ≡ a = omega arith in
          let most : least ≤ length (scores_at a ess) = rw (sym here) enough in
          let kept = gathered-keep least combined a ds ess most in
          let below : a < d + 1 = omega arith in
          let rest : from (d + 1) (gathered least combined (range_with_len a (suc n)) ess) ≡ gathered least combined ds ess = ap (from (d + 1)) kept
          ∙ from-skip (d + 1) (scored a (combined (scores_at a ess))) (gathered least combined ds ess) below
          ∙ from-gathered_past least (d + 1) (a + 1) n combined ess (omega arith) in
          kept ∙ ap (λ x. scored x (combined (scores_at x ess)) ∷ gathered least combined ds ess) (sym here)
          ∙ ap (λ r. scored d (combined (scores_at d ess)) ∷ r) (sym rest)
    ]

gathered_below-first : (least d n : ℕ) (combined : List ℕ → ℕ) (ess : List (List Entry)) → d < n → IsBare least d ess → least ≤ length (scores_at d ess) →
    gathered least combined (documents_below n) ess ≡ scored d (combined (scores_at d ess)) ∷ from (d + 1) (gathered least combined (documents_below n) ess)
unfolding documents_below
gathered_below-first least d n combined ess h bare enough = gathered-first least d 0 n combined ess (omega arith) (omega arith) bare enough

-- the first of what is gathered, and the rest, which a cursor's step leaves
pub gather-first : (least d : ℕ) (combined : List ℕ → ℕ) (ess : List (List Entry)) → d < TERMINATED → IsBare least d ess →
    least ≤ length (scores_at d ess) → gather least combined ess ≡ scored d (combined (scores_at d ess)) ∷ from (d + 1) (gather least combined ess)
unfolding gather
gather-first least d combined ess h bare enough = gathered_below-first least d TERMINATED combined ess h bare enough

gathered-none : (least a n : ℕ) (combined : List ℕ → ℕ) (ess : List (List Entry)) →
    IsBare least (a + n) ess → gathered least combined (range_with_len a n) ess ≡ []
gathered-none least a zero combined ess bare = gathered-nil least combined ess
gathered-none least a (suc n) combined ess bare = gathered-skip least combined a (range_with_len (a + 1) n) ess (bare a (omega arith))
    ∙ gathered-none least (a + 1) n combined ess (λ d h. bare d (omega arith))

gathered_below-none : (least n : ℕ) (combined : List ℕ → ℕ) (ess : List (List Entry)) →
    IsBare least n ess → gathered least combined (documents_below n) ess ≡ []
unfolding documents_below
gathered_below-none least n combined ess bare = gathered-none least 0 n combined ess (λ d h. bare d (omega arith))

-- where no document is in enough of the lists, nothing is gathered
pub gather-none : (least : ℕ) (combined : List ℕ → ℕ) (ess : List (List Entry)) → IsBare least TERMINATED ess → gather least combined ess ≡ []
unfolding gather
gather-none least combined ess bare = gathered_below-none least TERMINATED combined ess bare

-- what is left from a target on begins there or later
pub head_document-from : (t : ℕ) (es : List Entry) → t ≤ TERMINATED → t ≤ head_document (from t es)
head_document-from t [] h = rw (from-nil t) h
head_document-from t (e ∷ es) h =
    elim (cases_lt e.document t) [
      | inl below ↦ rw (from-skip t e es below) (head_document-from t es h)
      | inr kept ↦ rw (from-keep t e es kept) kept
    ]

-- where no document below a bound is in enough of the lists, what is gathered begins there or later
pub head_document-gather : (least t : ℕ) (combined : List ℕ → ℕ) (ess : List (List Entry)) →
    1 ≤ least → t ≤ TERMINATED → IsBare least t ess → t ≤ head_document (gather least combined ess)
head_document-gather least t combined ess h below bare =
    let all = gather-bare least t combined ess h bare in
    omega (arith, head_document-from t (gather least combined ess) below, ap head_document all)

-- The order of the lists is of no consequence.
pub scores_at-permutation : (d : ℕ) (xss yss : List (List Entry)) → IsPermutation xss yss → IsPermutation (scores_at d xss) (scores_at d yss)
scores_at-permutation d =
    IsPermutation-along (λ xss yss. IsPermutation (scores_at d xss) (scores_at d yss))
    (λ xss. IsPermutation-refl (scores_at d xss))
    (λ es xss yss h. rw (scores_at-cons d es xss, scores_at-cons d es yss) (IsPermutation-append_right (map (λ e. e.score) (entries_of d es)) _ _ h))
    (λ xs ys ess.
    let a = map (λ e. e.score) (entries_of d xs) in
    let b = map (λ e. e.score) (entries_of d ys) in
    let first : scores_at d (xs ∷ ys ∷ ess) ≡ (a ++ b) ++ scores_at d ess = scores_at-cons d xs (ys ∷ ess)
    ∙ ap (λ r. a ++ r) (scores_at-cons d ys ess) ∙ sym (append_assoc a b (scores_at d ess)) in
    let second : scores_at d (ys ∷ xs ∷ ess) ≡ (b ++ a) ++ scores_at d ess = scores_at-cons d ys (xs ∷ ess)
    ∙ ap (λ r. b ++ r) (scores_at-cons d xs ess) ∙ sym (append_assoc b a (scores_at d ess)) in
    rw (first, second) (IsPermutation-append_left (scores_at d ess) _ _ (IsPermutation-append_comm a b)))
    (λ xss yss zss. IsPermutation-trans _ _ _)

pub gather-permutation : (least : ℕ) (combined : List ℕ → ℕ) (xss yss : List (List Entry)) →
    ((xs ys : List ℕ) → IsPermutation xs ys → combined xs ≡ combined ys) → IsPermutation xss yss → gather least combined xss ≡ gather least combined yss
gather-permutation least combined xss yss any_order moved =
    gather-same least least combined combined xss yss (λ d.
    let bag = scores_at-permutation d xss yss moved in
    let long = length_permutation (scores_at d xss) (scores_at d yss) bag in
    ((λ enough. (omega arith, any_order (scores_at d xss) (scores_at d yss) bag)), (λ few. omega arith)))
