-- The documents that the members of a group stand on, as they are kept beside them.
use Rattle.std.proofs.Common.{◌≡◌, ℕ, zero, suc, ◌+◌, ◌-◌, ◌<◌, ◌≤◌, List, [], ◌∷◌, All, get_or, length, map, min, nat_eq, set, take, arith, refl, sym, ap, ◌∙◌, inl, inr, length-append}
use Rattle.std.specs.List.{count_by}
use Rattle.std.proofs.lemmas.Bool.{cases_eq, cases_lt, eq-eqb, ne_eqb}
use Rattle.std.proofs.lemmas.List.{get_or-set_other, get_or-set_same, get_or_default, length-map, map-set, take_all}
use Rattle.std.proofs.lemmas.List.Sums.{count_by_more_no, count_by_more_yes}
use Rattle.qm_docset.specs.Entry.{AreEntries, Entry, Limits, head_document, head_score}
use Rattle.qm_docset.specs.Gather.{scores_at}
use Rattle.qm_docset.specs.GatherFacts.{scores_at-nil}
use Rattle.qm_docset.specs.declared.numbers.TheConstants.{TERMINATED}
use Rattle.qm_combine.specs.Union.{least_head}
use Rattle.qm_combine.proofs.EachMember.{get_or-map-map}
use Rattle.qm_combine.proofs.Uniting.{least_head-le, scores_at-more, scores_at-more_ahead}
use Rattle.qm_scorer.specs.LeastDocs.{IsLeastDocs, least_of}
use Rattle.qm_scorer.specs.Tree.{AreMemberHeads}
use Rattle.qm_scorer.specs.declared.least_docs.LeastDocs.{LeastDocs}

-- their least is the members'
pub least_of-heads : (ess : List (List Entry)) → least_of (map head_document ess) ≡ least_head ess
least_of-heads [] = refl
least_of-heads (es ∷ ess) = ap (min (head_document es)) (least_of-heads ess)

-- all up to a place that was put to a document past the target are past it, and so are those behind that were
-- passed over
pub passed-more : (docs : List ℕ) (target k d next : ℕ) → k < length docs → ((j : ℕ) → j < k → target ≤ get_or docs j 0) → target ≤ d →
    ((j : ℕ) → k + 1 ≤ j → j < next → target ≤ get_or (set docs k d) j 0) → (j : ℕ) → j < next → target ≤ get_or (set docs k d) j 0
passed-more docs target k d next here before past behind j below =
    elim (cases_lt k j) [
      | inl after ↦ behind j (omega (arith, after)) below
      | inr up_to ↦ elim (cases_eq j k) [
        | inl same ↦ omega (arith, past, ap (λ i. get_or (set docs k d) i 0) same, get_or-set_same docs k d 0 here)
        | inr other ↦ omega (arith, before j (omega (arith, up_to, other)), get_or-set_other docs k j d 0 other)
      ]
    ]

module _ {X : Type 0} (list : X → List Entry) (xs : List X) (heads : LeastDocs) (h : AreMemberHeads heads (map list xs)) where
  -- they are as many as there are members
  pub heads-length : length heads.docs.items ≡ length xs
  heads-length = ap length h.docs ∙ length-map (map list xs) head_document ∙ length-map xs list

  -- the one in a place is that of the member there
  pub head-kept : (k : ℕ) (x : X) → k < length xs → get_or heads.docs.items k 0 ≡ head_document (list (get_or xs k x))
  head-kept k x below = ap (λ ds. get_or ds k 0) h.docs ∙ get_or-map-map head_document list xs k x 0 below

  -- a member was moved, and its document put in its place
  pub AreMemberHeads-put : (k d : ℕ) (x : X) (new : LeastDocs) → IsLeastDocs new → new.docs.items ≡ set heads.docs.items k d →
      d ≡ head_document (list x) → AreMemberHeads new (map list (set xs k x))
  AreMemberHeads-put k d x new valid put is = record {
    valid = valid;
    docs = put ∙ ap (λ ds. set ds k d) h.docs ∙ ap (set (map head_document (map list xs)) k) is
        ∙ sym (map-set head_document (map list xs) k (list x)) ∙ ap (map head_document) (sym (map-set list xs k x));
  }

  -- where all were passed, all members stand at or past the target
  pub all-reached : (target : ℕ) → ((k : ℕ) → k < length xs → target ≤ get_or heads.docs.items k 0) → All (λ x. target ≤ head_document (list x)) xs
  all-reached target passed k x below = omega (arith, passed k below, head-kept k x below)

  -- where the one in a place is not past the least, the member there stands on that
  pub head-least : (k d : ℕ) (x : X) → k < length xs → d ≡ least_head (map list xs) → get_or heads.docs.items k 0 < d + 1 → head_document (list (get_or xs k x)) ≡ d
  head-least k d x below is here = omega (arith, is, here, head-kept k x below, least_head-le list xs k x below)

  module _ (bound : X → Limits) (all : All (λ x. AreEntries 0 (bound x) (list x)) xs) (d : ℕ) where
    skipped : (x : X) (i n : ℕ) → i + n ≤ length xs → ((k : ℕ) → i ≤ k → k < i + n → d + 1 ≤ get_or heads.docs.items k 0) →
        scores_at d (take (i + n) (map list xs)) ≡ scores_at d (take i (map list xs))
    skipped x i zero within past = ap (λ k. scores_at d (take k (map list xs))) (omega arith)
    skipped x i (suc n) within past =
        let m : ℕ = i + n in
        let here : m < length xs = omega (arith, within) in
        let y = get_or xs m x in
        let ahead : d < head_document (list y) = omega (arith, past m (omega arith) (omega arith), head-kept m x here) in
        let one : i + suc n ≡ m + 1 = omega arith in
        ap (λ k. scores_at d (take k (map list xs))) one ∙ scores_at-more_ahead list (bound y) xs m d y (all m x here) (get_or_default xs m x y here) here ahead
        ∙ skipped x i n (omega (arith, within)) (λ k from below. past k from (omega (arith, below)))

    nothing_skipped : (ys : List X) (i n : ℕ) → ys ≡ xs → i + n ≤ length ys → ((k : ℕ) → i ≤ k → k < i + n → d + 1 ≤ get_or heads.docs.items k 0) →
        scores_at d (take (i + n) (map list xs)) ≡ scores_at d (take i (map list xs))
    nothing_skipped [] i n same within past = ap (λ k. scores_at d (take k (map list xs))) (omega (arith, within))
    nothing_skipped (y ∷ ys) i n same within past = skipped y i n (omega (arith, within, ap length same)) past

    -- members past a document add no score there
    pub scores_at-skipped : (place next : ℕ) → place ≤ next → next ≤ length xs →
        ((k : ℕ) → place ≤ k → k < next → d + 1 ≤ get_or heads.docs.items k 0) →
        scores_at d (take next (map list xs)) ≡ scores_at d (take place (map list xs))
    scores_at-skipped place next order within past =
        ap (λ k. scores_at d (take k (map list xs))) (omega (arith, order))
        ∙ nothing_skipped xs place (next - place) refl (omega (arith, order, within)) (λ k from below. past k from (omega (arith, below, order)))

    -- one member more is counted where it has the document
    counted_more : d < TERMINATED → d ≤ least_head (map list xs) → (x : X) (i : ℕ) → i < length xs →
        count_by (λ e. nat_eq e d) (take i heads.docs.items) ≡ length (scores_at d (take i (map list xs))) →
        count_by (λ e. nat_eq e d) (take (i + 1) heads.docs.items) ≡ length (scores_at d (take (i + 1) (map list xs)))
    counted_more below least x i here before =
        let y = get_or xs i x in
        let same = get_or_default xs i x y here in
        let kept = head-kept i x here in
        let long : i < length heads.docs.items = omega (arith, here, heads-length) in
        let past = least_head-le list xs i x here in
        elim (cases_eq (head_document (list y)) d) [
          | inl on ↦
              let more = scores_at-more list (bound y) xs i d y (all i x here) same here on below in
              count_by_more_yes (λ e. nat_eq e d) heads.docs.items i 0 long (eq-eqb (get_or heads.docs.items i 0) d (kept ∙ on)) ∙ ap (λ n. n + 1) before
              ∙ sym (ap length more ∙ length-append (scores_at d (take i (map list xs))) (head_score (list y) ∷ []))
          | inr off ↦
              let more = scores_at-more_ahead list (bound y) xs i d y (all i x here) same here (omega (arith, off, past, least)) in
              count_by_more_no (λ e. nat_eq e d) heads.docs.items i 0 long
              (ne_eqb (get_or heads.docs.items i 0) d (λ on. absurd (omega (arith, on, kept, off)))) ∙ before ∙ sym (ap length more)
        ]

    counted : d < TERMINATED → d ≤ least_head (map list xs) → (i : ℕ) (ys : List X) → ys ≡ xs → i ≤ length ys →
        count_by (λ e. nat_eq e d) (take i heads.docs.items) ≡ length (scores_at d (take i (map list xs)))
    counted below least zero ys same within = sym (ap length (scores_at-nil d))
    counted below least (suc i) [] same within = absurd (omega (arith, within))
    counted below least (suc i) (y ∷ ys) same within =
        let one : suc i ≡ i + 1 = omega arith in
        ap (λ k. count_by (λ e. nat_eq e d) (take k heads.docs.items)) one
        ∙ counted_more below least y i (omega (arith, within, ap length same)) (counted below least i (y ∷ ys) same (omega (arith, within)))
        ∙ ap (λ k. length (scores_at d (take k (map list xs)))) (sym one)

    -- so many stand on a document as have it
    pub scores_at-counted : d < TERMINATED → d ≤ least_head (map list xs) → count_by (λ e. nat_eq e d) heads.docs.items ≡ length (scores_at d (map list xs))
    scores_at-counted below least =
        ap (count_by (λ e. nat_eq e d)) (sym (take_all (length xs) heads.docs.items (omega (arith, heads-length)))) ∙ counted below least (length xs) xs refl (omega arith)
        ∙ ap (λ r. length (scores_at d r)) (take_all (length xs) (map list xs) (omega (arith, length-map xs list)))
