-- The run over what cells show, as one over the lists that they hold.
use Rattle.std.proofs.Common.{◌≡◌, ◌∙◌, ℕ, ℤ, zero, suc, ◌+◌, ◌<◌, ◌≤◌, ◌<ℤ◌, ◌≤ℤ◌, true, false, List, [], ◌∷◌, fold, length, pos, ap, arith, inl, inr, refl}
use Rattle.std.proofs.Common.{subst, sum, sym}
use Rattle.std.proofs.lemmas.Int.{by_lt_z}
use Rattle.std.proofs.lemmas.Bool.{cases_Bool, cases_lt, false≢true}
use Rattle.qm_term.specs.Cells.{HoldLists, RunsOver, Shown, all_shown, cell_of, cells_clear, cells_has, cells_start, cuts, entries_shown, shown_from}
use Rattle.qm_term.specs.Runs.{MayPrune, MayTurn, Turn}
use Rattle.qm_term.specs.Members.{AreMembers, Member, scores_of, united}
use Rattle.qm_term.specs.Pivot.{Held, Pruned, blockbound}
use Rattle.qm_term.specs.declared.wand.cells.Cells.{Cells}
use Rattle.qm_term.proofs.StretchCells.{has_below}
use Rattle.qm_term.proofs.StretchCuts.{AreCut-cuts, cuts_held, cuts_members, held_cuts, passes_cuts, scores_cuts}
use Rattle.qm_term.proofs.WandBounds.{held-has, cut_blockbound, has-held, low_le}
use Rattle.qm_term.proofs.WandPlain.{is_above, not_above, pass_may, pass_step, score_may, score_step}
use Rattle.qm_term.proofs.WandScores.{cut_scores, united_le}
use lib.Signed.{clash_ℤ}

-- ---- what is shown

shown_here : {C : Type 0} (value : C → ℕ) (w : Cells C) (s n : ℕ) → cells_has w s ≡ true
    → shown_from value w s (suc n) ≡ (let e : Shown = record { document = s; score = value (cell_of w s).state; bound = (cell_of w s).bound } in e ∷ shown_from value w (suc s) n)
unfolding shown_from
shown_here value w s n y = rw y refl

shown_later : {C : Type 0} (value : C → ℕ) (w : Cells C) (s n : ℕ) → cells_has w s ≡ false → shown_from value w s (suc n) ≡ shown_from value w (suc s) n
unfolding shown_from
shown_later value w s n y = rw y refl

shown_past : {C : Type 0} (value : C → ℕ) (w : Cells C) (end s n : ℕ) → ((d : ℕ) → end ≤ d → cells_has w d ≡ false) → end ≤ s → shown_from value w s n ≡ []
unfolding shown_from
shown_past value w end s zero none past = refl
shown_past value w end s (suc n) none past = rw (none s past) (shown_past value w end (suc s) n none (omega (arith, past)))

shown_zero : {C : Type 0} (value : C → ℕ) (w : Cells C) (s : ℕ) → shown_from value w s zero ≡ []
unfolding shown_from
shown_zero value w s = refl

module _ {F C : Type 0} (call : F → ℕ → ℤ → ℤ → F → Type 0) (combined : List ℕ → ℕ) (within : (xs : List ℕ) → combined xs ≤ sum xs)
    (step : C → ℕ → C) (value : C → ℕ) (low end : ℕ) (ms : List Member) (are : AreMembers ms) (w : Cells C)
    (makes : (xs : List ℕ) → value (fold step (cells_clear w).state xs) ≡ combined xs)
    (h : HoldLists step end (cuts low ms) w) where
  -- the document s is there
  module _ (s : ℕ) (from_low : low ≤ s) (y : cells_has w s ≡ true) where
    held_here : Held s ms
    held_here = cuts_held low s ms are (has-held s (cuts low ms) (sym (h.has s (has_below step end (cuts low ms) w h s y)) ∙ y))

    score_here : value (cell_of w s).state ≡ combined (scores_of s (cuts s ms))
    score_here = ap value (h.state s (has_below step end (cuts low ms) w h s y)) ∙ makes (scores_of s (cuts low ms))
        ∙ ap combined (cut_scores low s ms (cuts low ms) (AreCut-cuts low ms) from_low ∙ sym (cut_scores s s ms (cuts s ms) (AreCut-cuts s ms) (omega arith)))

    bound_here : (cell_of w s).bound ≡ blockbound s ms
    bound_here = h.bound s (has_below step end (cuts low ms) w h s y) ∙ cut_blockbound low s ms (cuts low ms) (AreCut-cuts low ms) from_low

    low_score : (th : ℤ) → pos (cell_of w s).bound ≤ℤ th → pos (value (cell_of w s).state) ≤ℤ th
    low_score th k = low_le th (value (cell_of w s).state) (cell_of w s).bound (omega (
      arith,
      score_here,
      bound_here,
      united_le combined within s (cuts s ms) (cuts_members s ms are),
      cut_blockbound s s ms (cuts s ms) (AreCut-cuts s ms) (omega arith),
    )) k

  -- a document that is not there is in no list
  not_held : (s : ℕ) → low ≤ s → s < end → cells_has w s ≡ false → Held s ms → ⊥
  not_held s from_low inside n held =
      false≢true (sym n ∙ h.has s inside ∙ held-has s (cuts low ms) (held_cuts low s ms from_low held))

  -- the next document, where there is none at s
  module _ (th : ℤ) (s : ℕ) (quiet : (d : ℕ) → s ≤ d → d < suc s → Held d ms → pos (blockbound d ms) ≤ℤ th) where
    step_over : (f g : F) (last : ℤ) (n : ℕ) → Pruned call combined th f (cuts (suc s) ms) n last g → Pruned call combined th f (cuts s ms) n last g
    step_over f g last n r = pass_step combined within call th (suc s) (cuts s ms) (cuts (suc s) ms)
        (cuts_members s ms are) (cuts_members (suc s) ms are) (passes_cuts th s (suc s) ms are (omega arith) quiet) f g last n r

    may_over : (pre : F → ℕ → ℤ → Type 0) (f : F) → MayPrune call pre th f (united combined (cuts s ms)) → MayPrune call pre th f (united combined (cuts (suc s) ms))
    may_over pre f r = pass_may combined within call th (suc s) (cuts s ms) (cuts (suc s) ms)
        (cuts_members s ms are) (cuts_members (suc s) ms are) (passes_cuts th s (suc s) ms are (omega arith) quiet) pre f r

  at_s : (P : ℕ → Type 0) (s d : ℕ) → s ≤ d → d < suc s → P s → P d
  at_s P s d a b p = let e : s ≡ d = omega (arith, a, b) in subst P e p

  -- ---- the run

  over_none : (th th' : ℤ) (f g : F) (k : ℕ) (es : List Shown) → es ≡ [] → RunsOver call th f es k th' g → (k ≡ 0) × (th' ≡ th) × (g ≡ f)
  over_none th th' f g k es e r = subst (λ (xs : List Shown). RunsOver call th f xs k th' g) e r

  ended : (th th' : ℤ) (f g : F) (k j : ℕ) (s : ℕ) (last : ℤ) (z : F) → s ≡ end → (k ≡ 0) × (th' ≡ th) × (g ≡ f) →
      Pruned call combined th' g (cuts end ms) j last z → Pruned call combined th f (cuts s ms) (k + j) last z
  ended th th' f g k j s last z e r p =
      let same : j ≡ k + j = omega (arith, r.0) in
      subst (λ (n : ℕ). Pruned call combined th f (cuts s ms) n last z) same
      (subst (λ (x : ℕ). Pruned call combined th f (cuts x ms) j last z) (sym e)
      (subst (λ (x : F). Pruned call combined th x (cuts end ms) j last z) r.2
      (subst (λ (x : ℤ). Pruned call combined x g (cuts end ms) j last z) r.1 p)))

  run_shown : (n s : ℕ) → low ≤ s → s ≤ end → end ≤ s + n → (th th' : ℤ) (f g : F) (k : ℕ) → RunsOver call th f (shown_from value w s n) k th' g →
      (j : ℕ) (last : ℤ) (z : F) → Pruned call combined th' g (cuts end ms) j last z → Pruned call combined th f (cuts s ms) (k + j) last z
  run_shown zero s a b c th th' f g k r j last z p =
      ended th th' f g k j s last z (omega (arith, b, c)) (over_none th th' f g k _ (shown_past value w end s zero (λ d l. (h.beyond d l).0) (omega (arith, b, c))) r) p
  run_shown (suc n) s a b c th th' f g k r j last z p =
      elim (cases_lt s end) [
        | inr past ↦
            ended th th' f g k j s last z (omega (arith, b, past))
            (over_none th th' f g k _ (shown_past value w end s (suc n) (λ d l. (h.beyond d l).0) past) r) p
        | inl inside ↦ elim (cases_Bool (cells_has w s)) [
          | inr none ↦
              let r' = subst (λ (xs : List Shown). RunsOver call th f xs k th' g) (shown_later value w s n none) r in
              step_over th s (λ d x y held. absurd (not_held s a inside none (at_s (λ x. Held x ms → Held s ms) s d x y (λ i. i) held))) f z last (k + j)
              (run_shown n (suc s) (omega (arith, a)) (omega (arith, inside)) (omega (arith, c)) th th' f g k r' j last z p)
          | inl y ↦
              let r' = subst (λ (xs : List Shown). RunsOver call th f xs k th' g) (shown_here value w s n y) r in
              let after = r'.0 in
              let mid = r'.1 in
              let m = r'.2 in
              let turn = r'.3 in
              let rest : Pruned call combined after mid (cuts (suc s) ms) (m + j) last z =
              run_shown n (suc s) (omega (arith, a)) (omega (arith, inside)) (omega (arith, c)) after th' mid g m r'.5 j last z p in
              by_lt_z th (pos (cell_of w s).bound)
              (λ above.
              let one = is_above th (cell_of w s).bound above in
              let same : suc (m + j) ≡ k + j = omega (arith, r'.4, one) in
              subst (λ (i : ℕ). Pruned call combined th f (cuts s ms) i last z) same
              (score_step combined within call th s (cuts s ms) (cuts (suc s) ms) (cuts_members s ms are)
              (scores_cuts th s ms are (held_here s a y) (subst (λ (i : ℕ). th <ℤ pos i) (bound_here s a y) above)) f mid z after last (m + j)
              (subst (λ (i : ℕ). Turn call th f s (pos i) after mid) (score_here s a y) turn) rest))
              (λ quiet.
              let none = not_above th (cell_of w s).bound quiet in
              let same : m + j ≡ k + j = omega (arith, r'.4, none) in
              let score = low_score s a y th quiet in
              let moved = subst (λ (x : F). Pruned call combined th x (cuts (suc s) ms) (m + j) last z) (turn.same_callback score)
              (subst (λ (x : ℤ). Pruned call combined x mid (cuts (suc s) ms) (m + j) last z) (turn.same_threshold score) rest) in
              subst (λ (i : ℕ). Pruned call combined th f (cuts s ms) i last z) same
              (step_over th s (λ d x v held. at_s (λ i. pos (blockbound i ms) ≤ℤ th) s d x v
              (subst (λ (i : ℕ). pos i ≤ℤ th) (bound_here s a y) quiet)) f z last (m + j) moved))
        ]
      ]

  -- ---- and its calls

  module _ (pre : F → ℕ → ℤ → Type 0) where
    -- what may be called over the lists may be over the document at s and those behind it
    may_here : (s : ℕ) → low ≤ s → cells_has w s ≡ true → (th : ℤ) (f : F) → MayPrune call pre th f (united combined (cuts s ms)) →
        MayTurn pre th f s (value (cell_of w s).state)
        × ((after : ℤ) (g : F) → Turn call th f s (pos (value (cell_of w s).state)) after g → MayPrune call pre after g (united combined (cuts (suc s) ms)))
    may_here s a y th f may =
        by_lt_z th (pos (cell_of w s).bound)
        (λ above.
        let first = score_may combined within call th s (cuts s ms) (cuts (suc s) ms) (cuts_members s ms are)
        (scores_cuts th s ms are (held_here s a y) (subst (λ (i : ℕ). th <ℤ pos i) (bound_here s a y) above)) pre f may in (
          subst (λ (i : ℕ). MayTurn pre th f s i) (sym (score_here s a y)) first.0,
          λ after g turn. first.1 after g (subst (λ (i : ℕ). Turn call th f s (pos i) after g) (score_here s a y) turn),
        ))
        (λ quiet.
        let score = low_score s a y th quiet in
        let rest = may_over th s (λ d x v held. at_s (λ i. pos (blockbound i ms) ≤ℤ th) s d x v
        (subst (λ (i : ℕ). pos i ≤ℤ th) (bound_here s a y) quiet)) pre f may in (
          λ high. absurd (clash_ℤ high score),
          λ after g turn.
              subst (λ (t : ℤ). MayPrune call pre t g (united combined (cuts (suc s) ms))) (sym (turn.same_threshold score))
              (subst (λ (x : F). MayPrune call pre th x (united combined (cuts (suc s) ms))) (sym (turn.same_callback score)) rest),
        ))

    may_later : (s : ℕ) → low ≤ s → s < end → cells_has w s ≡ false → (th : ℤ) (f : F) →
        MayPrune call pre th f (united combined (cuts s ms)) → MayPrune call pre th f (united combined (cuts (suc s) ms))
    may_later s a inside none th f may =
        may_over th s (λ d x y held. absurd (not_held s a inside none (at_s (λ x. Held x ms → Held s ms) s d x y (λ i. i) held))) pre f may

    may_none : (th : ℤ) (f : F) (es : List Shown) → es ≡ [] → MayPrune call pre th f (entries_shown es)
    may_none th f es e = subst (λ (xs : List Shown). MayPrune call pre th f (entries_shown xs)) (sym e) tt

    may_shown : (n s : ℕ) → low ≤ s → s ≤ end → (th : ℤ) (f : F) →
        MayPrune call pre th f (united combined (cuts s ms)) → MayPrune call pre th f (entries_shown (shown_from value w s n))
    may_shown zero s a b th f may = may_none th f _ (shown_zero value w s)
    may_shown (suc n) s a b th f may =
        elim (cases_lt s end) [
          | inr past ↦ may_none th f _ (shown_past value w end s (suc n) (λ d l. (h.beyond d l).0) past)
          | inl inside ↦ elim (cases_Bool (cells_has w s)) [
            | inr none ↦
                subst (λ (xs : List Shown). MayPrune call pre th f (entries_shown xs)) (sym (shown_later value w s n none))
                (may_shown n (suc s) (omega (arith, a)) (omega (arith, inside)) th f (may_later s a inside none th f may))
            | inl y ↦
                let r = may_here s a y th f may in
                subst (λ (xs : List Shown). MayPrune call pre th f (entries_shown xs)) (sym (shown_here value w s n y))
                (r.0, λ after g turn. may_shown n (suc s) (omega (arith, a)) (omega (arith, inside)) after g (r.1 after g turn))
          ]
        ]

    may_ended : (th th' : ℤ) (f g : F) (k s : ℕ) → s ≡ end → (k ≡ 0) × (th' ≡ th) × (g ≡ f) →
        MayPrune call pre th f (united combined (cuts s ms)) → MayPrune call pre th' g (united combined (cuts end ms))
    may_ended th th' f g k s e r may =
        subst (λ (x : ℤ). MayPrune call pre x g (united combined (cuts end ms))) (sym r.1)
        (subst (λ (x : F). MayPrune call pre th x (united combined (cuts end ms))) (sym r.2)
        (subst (λ (x : ℕ). MayPrune call pre th f (united combined (cuts x ms))) e may))

    -- and after the run, what is left
    may_after : (n s : ℕ) → low ≤ s → s ≤ end → end ≤ s + n → (th th' : ℤ) (f g : F) (k : ℕ) → RunsOver call th f (shown_from value w s n) k th' g →
        MayPrune call pre th f (united combined (cuts s ms)) → MayPrune call pre th' g (united combined (cuts end ms))
    may_after zero s a b c th th' f g k r may =
        may_ended th th' f g k s (omega (arith, b, c)) (over_none th th' f g k _ (shown_zero value w s) r) may
    may_after (suc n) s a b c th th' f g k r may =
        elim (cases_lt s end) [
          | inr past ↦ may_ended th th' f g k s (omega (arith, b, past))
              (over_none th th' f g k _ (shown_past value w end s (suc n) (λ d l. (h.beyond d l).0) past) r) may
          | inl inside ↦ elim (cases_Bool (cells_has w s)) [
            | inr none ↦
                may_after n (suc s) (omega (arith, a)) (omega (arith, inside)) (omega (arith, c)) th th' f g k
                (subst (λ (xs : List Shown). RunsOver call th f xs k th' g) (shown_later value w s n none) r) (may_later s a inside none th f may)
            | inl y ↦
                let r' = subst (λ (xs : List Shown). RunsOver call th f xs k th' g) (shown_here value w s n y) r in
                may_after n (suc s) (omega (arith, a)) (omega (arith, inside)) (omega (arith, c)) r'.0 th' r'.1 g r'.2 r'.5
                ((may_here s a y th f may).1 r'.0 r'.1 r'.3)
          ]
        ]

  -- ---- all that is there, where the first cell is that of the first document

  module _ (start : cells_start w ≡ low) (some : low ≤ end) where
    pub run_all : end ≤ low + length w.cells.items → (th th' : ℤ) (f g : F) (k : ℕ) → RunsOver call th f (all_shown value w) k th' g →
        (j : ℕ) (last : ℤ) (z : F) → Pruned call combined th' g (cuts end ms) j last z → Pruned call combined th f (cuts low ms) (k + j) last z
    unfolding all_shown
    run_all covers th th' f g k r j last z p =
        let n = length w.cells.items in
        run_shown n low (omega arith) some covers th th' f g k (subst (λ (x : ℕ). RunsOver call th f (shown_from value w x n) k th' g) start r) j last z p

    pub may_all : (pre : F → ℕ → ℤ → Type 0) (th : ℤ) (f : F) →
        MayPrune call pre th f (united combined (cuts low ms)) → MayPrune call pre th f (entries_shown (all_shown value w))
    unfolding all_shown
    may_all pre th f may =
        let n = length w.cells.items in
        subst (λ (x : ℕ). MayPrune call pre th f (entries_shown (shown_from value w x n))) (sym start) (may_shown pre n low (omega arith) some th f may)

    pub may_all_after : (pre : F → ℕ → ℤ → Type 0) → end ≤ low + length w.cells.items → (th th' : ℤ) (f g : F) (k : ℕ) → RunsOver call th f (all_shown value w) k th' g →
        MayPrune call pre th f (united combined (cuts low ms)) → MayPrune call pre th' g (united combined (cuts end ms))
    unfolding all_shown
    may_all_after pre covers th th' f g k r may =
        let n = length w.cells.items in
        may_after pre n low (omega arith) some covers th th' f g k (subst (λ (x : ℕ). RunsOver call th f (shown_from value w x n) k th' g) start r) may
