-- What the best of some documents says of all of them, and how many there are more.
use Rattle.std.specs.Prelude.{◌≡◌, ◌⊎◌, ℕ, zero, suc, ◌+◌, ◌≤◌, min, nat_lt, ℤ, List, [], ◌∷◌, All, Contains, IfSome, None, Option, length, slice_get}
use Rattle.std.proofs.Common.{arith, refl, subst, sym, ◌∙◌, get_or, inl, inr}
use Rattle.std.proofs.lemmas.Bool.{cases_lt, lt-ltb, le-ltb}
use Rattle.std.proofs.lemmas.List.Elements.{All-head, Contains-get_or}
use Rattle.qm_postings.specs.declared.address.DocAddress.{DocAddress}
use Rattle.qm_query.specs.TopDocs.{StandsBefore, score_first}

module _ (all : List (DocAddress × ℤ)) where
  -- each of them is in an answer of at most one, or stands behind it
  abbrev pub IsAnswerOf : List (ℤ × DocAddress) → Type 0
  IsAnswerOf found = (d : DocAddress × ℤ) → Contains all d →
      Contains found (score_first d) ⊎ ((length found ≡ 1) × All (λ e. StandsBefore e (score_first d)) found)

  behind : (b : ℤ × DocAddress) (d : DocAddress × ℤ) → Contains (b ∷ []) (score_first d)
      ⊎ ((length (b ∷ []) ≡ 1) × All (λ e. StandsBefore e (score_first d)) (b ∷ [])) → (score_first d ≡ b) ⊎ StandsBefore b (score_first d)
  behind b d (inl (zero, within, is)) = inl (sym is)
  behind b d (inl (suc k, within, is)) = absurd (omega (arith, within))
  behind b d (inr before) = inr (All-head (λ e. StandsBefore e (score_first d)) b [] before.1)

  first_best : (found : List (ℤ × DocAddress)) → length found ≤ 1 → IsAnswerOf found →
      IfSome (slice_get found 0) (λ b. All (λ d. (score_first d ≡ b) ⊎ StandsBefore b (score_first d)) all)
  first_best [] few others = tt
  first_best (b ∷ []) few others = λ k x below. behind b (get_or all k x) (others (get_or all k x) (Contains-get_or all k x below))
  first_best (b ∷ c ∷ found) few others = absurd (omega (arith, few))

  pub best_found : (r : Option (ℤ × DocAddress)) (found : List (ℤ × DocAddress)) → r ≡ slice_get found 0 → length found ≤ 1 →
      IsAnswerOf found → IfSome r (λ b. All (λ d. (score_first d ≡ b) ⊎ StandsBefore b (score_first d)) all)
  best_found r found is few others =
      subst (λ o. IfSome o (λ b. All (λ d. (score_first d ≡ b) ⊎ StandsBefore b (score_first d)) all)) (sym is) (first_best found few others)

  not_there : (d : DocAddress × ℤ) →
      Contains {X = ℤ × DocAddress} [] (score_first d) ⊎ ((length {A = ℤ × DocAddress} [] ≡ 1) × All (λ e. StandsBefore e (score_first d)) []) → ⊥
  not_there d (inl is) = omega (arith, is.1)
  not_there d (inr full) = omega (arith, full.0)

none_there : (ds : List (DocAddress × ℤ)) → IsAnswerOf ds [] → ds ≡ []
none_there [] none = refl
none_there (d ∷ ds) none = absurd (not_there (d ∷ ds) d (none d (0, omega arith, refl)))

none_by : (ds : List (DocAddress × ℤ)) (found : List (ℤ × DocAddress)) → slice_get found 0 ≡ None → IsAnswerOf ds found → ds ≡ []
none_by ds [] none others = none_there ds others
none_by ds (b ∷ found) none others = cc

-- where an answer of one has none there is none
pub none_found : (ds : List (DocAddress × ℤ)) (r : Option (ℤ × DocAddress)) (found : List (ℤ × DocAddress)) →
    r ≡ slice_get found 0 → IsAnswerOf ds found → r ≡ None → ds ≡ []
none_found ds r found is others none = none_by ds found (sym is ∙ none) others

-- one more than are wanted is found exactly where there are more
pub more_found : (size count : ℕ) → nat_lt size (min (size + 1) count) ≡ nat_lt size count
more_found size count = elim (cases_lt size count) [
  | inl less ↦ lt-ltb size (min (size + 1) count) (omega (arith, less)) ∙ sym (lt-ltb size count less)
  | inr past ↦ le-ltb size (min (size + 1) count) (omega (arith, past)) ∙ sym (le-ltb size count past)
]
