-- What each change leaves of the room that the states of a window have.
use Rattle.std.proofs.Common.{◌≡◌, ◌≢◌, ℕ, ◌+◌, ◌-◌, ◌≤◌, Bool, false, ◌&&◌, nat_le, [], ◌∷◌, ◌++◌, fold, sum, sym, ◌∙◌, ap, refl, arith, inl, inr}
use Rattle.std.proofs.lemmas.Bool.{cases_eq, cases_lt, lt-leb}
use Rattle.std.proofs.lemmas.List.Sums.{fold-append, sum_by-append, sum_by-cons}
use Rattle.qm_docset.specs.Entry.{greatest_score}
use Rattle.qm_combine.specs.Combiner.{HasRoomFor, IsCleared}
use Rattle.qm_combine.specs.Window.{IsUntil, window_combiner, window_has, window_state}
use Rattle.qm_combine.specs.declared.union.window.Window.{Window}
use Rattle.qm_combine.proofs.Refilled.{window_state-lacks}
use Rattle.cases_cursors.specs.Played.{IsPlayed}

module _ {C : Type 0} (step : C → ℕ → C) (cleared : C → C) where
  cleared-same : {old new : C} → new ≡ old → IsCleared cleared old → IsCleared cleared new
  cleared-same same is = record { start = is.start; is = same ∙ is.is }

  -- a document that is not there has a cleared state
  lacks-room : (w : Window C) (more d : ℕ) → more ≤ greatest_score → IsCleared cleared (window_combiner w) → window_has w d ≡ false
      → HasRoomFor step cleared more (window_state w d)
  lacks-room w more d fits is lacks =
      record { start = is.start; scores = []; state = window_state-lacks w d lacks ∙ is.is; fits = omega arith }

  room-kept : {old new : C} (more less : ℕ) → new ≡ old → less ≤ more → HasRoomFor step cleared more old → HasRoomFor step cleared less new
  room-kept more less same fewer r = record { start = r.start; scores = r.scores; state = same ∙ r.state; fits = omega (arith, r.fits) }

  pub played-none : (new : Window C) (more : ℕ) → more ≤ greatest_score → IsCleared cleared (window_combiner new)
      → ((d : ℕ) → window_has new d ≡ false) → IsUntil new → IsPlayed step cleared new more
  played-none new more fits start none until = record { until = until; start = start; room = λ d. lacks-room new more d fits start (none d) }

  pub played-reset : (old new : Window C) (more : ℕ) → IsPlayed step cleared old more → window_combiner new ≡ window_combiner old
      → ((d : ℕ) → window_has new d ≡ false) → IsUntil new → IsPlayed step cleared new more
  played-reset old new more h same none until = played-none new more (omega (arith, (h.room 0).fits)) (cleared-same same h.start) none until

  -- a score is added to a document
  pub played-added : (old new : Window C) (more doc score : ℕ) → IsPlayed step cleared old more → score ≤ more
      → window_state new doc ≡ step (window_state old doc) score → ((d : ℕ) → d ≢ doc → window_state new d ≡ window_state old d)
      → (IsUntil old → IsUntil new) → window_combiner new ≡ window_combiner old → IsPlayed step cleared new (more - score)
  played-added old new more doc score h fits state others until same = record {
    until = until h.until;
    start = cleared-same same h.start;
    room = λ d. elim (cases_eq d doc) [
      | inl here ↦
          let r = h.room doc in record {
            start = r.start;
            scores = r.scores ++ (score ∷ []);
            state = ap (window_state new) here ∙ state ∙ ap (λ s. step s score) r.state ∙ sym (fold-append step (cleared r.start) r.scores (score ∷ []));
            fits = omega (arith, r.fits, sum_by-append (λ n. n) r.scores (score ∷ []), sum_by-cons (λ n. n) score []);
          }
      | inr other ↦ room-kept more (more - score) (others d other) (omega arith) (h.room d)
    ];
  }

  -- documents below one are dropped
  pub played-dropped : (old new : Window C) (more doc : ℕ) → IsPlayed step cleared old more
      → ((d : ℕ) → window_has new d ≡ (nat_le doc d && window_has old d)) → ((d : ℕ) → doc ≤ d → window_state new d ≡ window_state old d)
      → (IsUntil old → IsUntil new) → window_combiner new ≡ window_combiner old → IsPlayed step cleared new more
  played-dropped old new more doc h has state until same = record {
    until = until h.until;
    start = cleared-same same h.start;
    room = λ d. elim (cases_lt d doc) [
      | inl below ↦
          let gone : window_has new d ≡ false = has d ∙ rw (lt-leb doc d below) refl in
          lacks-room new more d (omega (arith, (h.room 0).fits)) (cleared-same same h.start) gone
      | inr past ↦ room-kept more more (state d past) (omega arith) (h.room d)
    ];
  }
