-- A union that was made of members, or has filled its window from them, stands on its first document.
use Rattle.std.proofs.Common.{◌≡◌, ℕ, ◌<◌, ◌≤◌, true, false, nat_le, All, List, [], fold, length, map, max, subst, sum, arith, ap, sym, true≢false, ◌∙◌}
use Rattle.std.proofs.Common.{inl, inr}
use Rattle.std.proofs.lemmas.Bool.{cases_Bool, cases_lt, le-leb, lt-leb}
use Rattle.qm_docset.specs.Entry.{AreEntries, Entry, Limits, from, greatest_score, head_document}
use Rattle.qm_docset.specs.Gather.{AreMembers, gather, scores_at}
use Rattle.qm_docset.specs.declared.numbers.TheConstants.{TERMINATED}
use Rattle.qm_combine.specs.Union.{AreEntries-union, least_head, total_top, united_limits}
use Rattle.qm_combine.specs.United.{HasParts, IsUnited, united}
use Rattle.qm_combine.specs.Window.{KeepsEnough, window_combiner, window_has, window_state}
use Rattle.qm_combine.specs.Windowed.{windowed}
use Rattle.qm_combine.specs.declared.union.window.Window.{Window}
use Rattle.qm_combine.proofs.Refilled.{window_state-lacks}
use Rattle.qm_combine.proofs.Uniting.{scores_at-ahead, scores_at-least}
use Rattle.qm_combine.proofs.Windows.{enough_have, enough_have-none, windowed-filled}

-- a document that the first of some lists has is in a window that took in all that they have below an end
pub first-taken : {C : Type 0} (w : Window C) (first end : ℕ) (bounds : List Limits) (ess : List (List Entry)) → AreMembers bounds ess → first ≡ least_head ess
    → ((d : ℕ) → d < end → window_has w d ≡ nat_le 1 (length (scores_at d ess))) → first < end → first < TERMINATED → window_has w first ≡ true
first-taken w first end bounds ess members least documents ahead below =
    let some = scores_at-least bounds ess members (omega (arith, least)) in
    documents first ahead ∙ ap (λ d. nat_le 1 (length (scores_at d ess))) least ∙ le-leb 1 (length (scores_at (least_head ess) ess)) some

module _ {C : Type 0} (least : ℕ) (some : 1 ≤ least) (step : C → ℕ → C) (old new : Window C) (enough : KeepsEnough step least old new) where
  -- what a window lacked it has not kept
  kept-lacks : (d : ℕ) → window_has old d ≡ false → window_has new d ≡ false
  kept-lacks d lacks = enough.documents d [] lacks (window_state-lacks old d lacks) ∙ lt-leb least 0 some

  pub kept-there : (d : ℕ) → window_has new d ≡ true → window_has old d ≡ true
  kept-there d here = elim (cases_Bool (window_has old d)) [
    | inl there ↦ there
    | inr none ↦ absurd (true≢false (sym here ∙ kept-lacks d none))
  ]

  -- It took in all that some lists have below an end, and has kept what enough of them have.
  module _ (value : C → ℕ) (made : List ℕ → ℕ) (start : C) (combiner : window_combiner old ≡ start) (first end : ℕ) (bounds : List Limits)
      (ess : List (List Entry)) (members : AreMembers bounds ess) (from_least : first ≡ least_head ess)
      (documents : (d : ℕ) → d < end → window_has old d ≡ nat_le 1 (length (scores_at d ess))) (beyond : (d : ℕ) → end ≤ d → window_has old d ≡ false)
      (states : (d : ℕ) → d < end → window_state old d ≡ fold step start (scores_at d ess))
      (worth : (scores : List ℕ) → value (fold step start scores) ≡ made scores) where
    kept-taken : (d : ℕ) → d < end → window_has new d ≡ enough_have least ess d
    kept-taken d below =
        enough.documents d (scores_at d ess) (documents d below) (states d below ∙ ap (λ k. fold step k (scores_at d ess)) (sym combiner))

    pub kept-before : (d : ℕ) → window_has new d ≡ true → d < end
    kept-before d here = elim (cases_lt d end) [
      | inl below ↦ below
      | inr past ↦ absurd (true≢false (sym here ∙ kept-lacks d (beyond d past)))
    ]

    -- From any document on that none of these lies before it lists, with what is left of the lists, what enough of them had.
    pub united-taken : (doc : ℕ) → doc ≤ end → ((d : ℕ) → first ≤ d → d < doc → window_has new d ≡ false)
        → windowed least (window_has new) (λ d. value (window_state new d)) doc made (map (from end) ess) ≡ gather least made ess
    united-taken doc inside between =
        let bare : (d : ℕ) → d < doc → enough_have least ess d ≡ false = λ d before. elim (cases_lt d first) [
          | inl ahead ↦ enough_have-none least some ess d (scores_at-ahead d bounds ess members (omega (arith, from_least)))
          | inr behind ↦ sym (kept-taken d (omega (arith, before, inside))) ∙ between d behind before
        ] in
        let score : (d : ℕ) → window_has new d ≡ true → value (window_state new d) ≡ made (scores_at d ess) = λ d here.
        ap value (enough.states d here ∙ states d (kept-before d here)) ∙ worth (scores_at d ess) in
        windowed-filled least some (window_has new) (λ d. value (window_state new d)) made doc end ess bare kept-taken
        (λ d past. kept-lacks d (beyond d past)) score

module _ {C : Type 0} (combined : C → List ℕ → ℕ) (value : C → ℕ) (cleared : C → C)
    (bounded : (k : C) (scores : List ℕ) → sum scores ≤ greatest_score → combined k scores ≤ max 1 (sum scores))
    {X : Type 0} (list : X → List Entry) (limits : X → Limits) (ok : X → Type 0) (law : (x : X) → ok x → AreEntries 0 (limits x) (list x)) where
  -- A window that lists what enough of the members had, and lies before what they have left.
  pub united-made : (least : ℕ) (olds : List X) (w : Window C) (k : C) (doc ahead top : ℕ) (bounds : List Limits) (ess : List (List Entry))
      → All ok olds → HasParts cleared w top bounds → bounds ≡ map limits olds
      → united combined value least w doc ess ≡ gather least (combined k) (map list olds)
      → doc ≡ head_document (united combined value least w doc ess)
      → (doc < TERMINATED → window_has w doc ≡ true) → doc ≤ ahead → ahead ≡ least_head ess → ((d : ℕ) → window_has w d ≡ true → d < ahead)
      → IsUnited combined value least cleared w doc ahead top bounds ess
  united-made least olds w k doc ahead top bounds ess valid parts same entries first here before next behind =
      let fits : total_top (map limits olds) ≤ greatest_score = omega (arith, parts.fits, ap total_top same) in
      let ascends = AreEntries-union (combined k) (bounded k) least limits list olds (λ i d below. law _ (valid i d below)) fits in
      record {
        parts = parts;
        standing = record {
          first = first;
          here = here;
          before = before;
          next = next;
          behind = behind;
          ascending = subst (λ ls. AreEntries 0 (united_limits ls) (united combined value least w doc ess)) (sym same)
              (subst (AreEntries 0 (united_limits (map limits olds))) (sym entries) ascends);
        };
      }
