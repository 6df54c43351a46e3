-- What a call added to a window, whose last document follows from those that it has.
use Rattle.std.proofs.Common.{◌≡◌, ◌≢◌, ℕ, ◌<◌, ◌≤◌, ◌==◌, ◌||◌, nat_le, List, fold, length, arith, ne_eqb, sym, ◌∙◌, inl, inr}
use Rattle.std.proofs.lemmas.Bool.{cases_eq}
use Rattle.qm_docset.specs.Entry.{Entry}
use Rattle.qm_combine.specs.Added.{IsAdded, IsTakenIn}
use Rattle.qm_combine.specs.Window.{IsUntil, window_combiner, window_has, window_last, window_start, window_state}
use Rattle.qm_combine.specs.Windowed.{scores_of}
use Rattle.qm_combine.specs.declared.union.window.Window.{Window}

module _ {C : Type 0} (step : C → ℕ → C) (old new : Window C) where
  -- one document was added, and the last is at or past it and the last before
  pub IsAdded-made : (doc score : ℕ) → doc ≤ window_last new → window_last old ≤ window_last new
      → ((d : ℕ) → window_has new d ≡ (d == doc || window_has old d)) → window_state new doc ≡ step (window_state old doc) score
      → ((d : ℕ) → d ≢ doc → window_state new d ≡ window_state old d) → window_start new ≡ window_start old
      → window_combiner new ≡ window_combiner old → IsAdded step old new doc score
  IsAdded-made doc score here further documents state others start combiner = record {
    documents = documents;
    state = state;
    others = others;
    start = start;
    until = λ until d has. elim (cases_eq d doc) [
      | inl same ↦ omega arith
      | inr other ↦
          let had = rw (ne_eqb d doc other) at (sym (documents d) ∙ has) in
          let within = until d had in
          omega arith
    ];
    combiner = combiner;
  }

  -- a list was taken in below a bound; where its documents lie is known when that is asked
  pub IsTakenIn-made : (bound : ℕ) (es : List Entry) → window_start new ≡ window_start old → window_combiner new ≡ window_combiner old
      → (documents : (d : ℕ) → d < bound → window_has new d ≡ (window_has old d || nat_le 1 (length (scores_of d es))))
      → (beyond : (d : ℕ) → bound ≤ d → window_has new d ≡ window_has old d)
      → ((d : ℕ) → d < bound → window_state new d ≡ fold step (window_state old d) (scores_of d es))
      → (((d : ℕ) → d < bound → window_has new d ≡ (window_has old d || nat_le 1 (length (scores_of d es))))
      → ((d : ℕ) → bound ≤ d → window_has new d ≡ window_has old d) → IsUntil old → IsUntil new)
      → IsTakenIn step old new bound es
  IsTakenIn-made bound es start combiner documents beyond states until = record {
    documents = documents;
    beyond = beyond;
    states = states;
    start = start;
    until = until documents beyond;
    combiner = combiner;
  }
