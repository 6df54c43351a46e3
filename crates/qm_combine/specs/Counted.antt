-- A combiner that counts the scores beside what another combiner makes of them.
use Rattle.std.specs.Prelude.{◌≡◌, ℕ, ◌+◌, List, [], ◌∷◌, fold, min}
use Rattle.std.proofs.Common.{refl}
use Rattle.qm_combine.specs.declared.counted.Counted.{Counted}

-- as far as it counts
abbrev pub most_counted : ℕ
most_counted = 18446744073709551615

module _ {C : Type 0} where
  -- its state after a score, by what makes the other's of a score
  abbrev pub counted_step : (C → ℕ → C) → Counted C → ℕ → Counted C
  counted_step step c x = record { count = min (c.count + 1) most_counted; combiner = step c.combiner x }

  -- its state without any
  abbrev pub counted_cleared : (C → C) → Counted C → Counted C
  counted_cleared cleared c = record { count = 0; combiner = cleared c.combiner }

  -- after two scores, by the other's state then
  abbrev pub counted_again : Counted C → C → Counted C
  counted_again c other = record { count = min (min (c.count + 1) most_counted + 1) most_counted; combiner = other }

  abbrev pub counted_from_none : C → Counted C
  counted_from_none other = record { count = 0; combiner = other }

  -- The other takes the same scores.
  pub counted-fold : (step : C → ℕ → C) (c : Counted C) (xs : List ℕ) → (fold (counted_step step) c xs).combiner ≡ fold step c.combiner xs
  counted-fold step c [] = refl
  counted-fold step c (x ∷ xs) = counted-fold step (counted_step step c x) xs
