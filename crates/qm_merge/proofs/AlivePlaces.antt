-- The places of numbers among those that pass a test.
use Rattle.std.proofs.Common.{◌≡◌, ℕ, ◌+◌, ◌<◌, ◌≤◌, Bool, true, false, cond, List, [], ◌∷◌, ◌++◌, length, get_or, zero, suc, refl, ap, sym, subst, ◌∙◌, arith, inl, inr}
use Rattle.std.proofs.lemmas.Bool.{cases_lt}
use Rattle.std.proofs.lemmas.List.{append-nil, get_or_append_left, get_or_at, length-append, length_push}
use Rattle.qm_docset.specs.Members.{members_between}
use Rattle.qm_docset.proofs.MembersLemmas.{length-members_between, members_between-none, members_between-split}
use Rattle.qm_merge.proofs.DeletedOfBoth.{members-more}

-- how many numbers below one pass
abbrev pub rank : (ℕ → Bool) → ℕ → ℕ
rank has d = length (members_between has 0 d)

pub rank-start : (has : ℕ → Bool) → rank has 0 ≡ 0
rank-start has = ap length (members_between-none has 0 0 (λ x above below. absurd (omega arith)))

pub rank-within : (has : ℕ → Bool) (d : ℕ) → rank has d ≤ d
rank-within has d = omega (arith, length-members_between has 0 d)

pub rank-rises : (has : ℕ → Bool) (d e : ℕ) → d ≤ e → rank has d ≤ rank has e
rank-rises has d e le =
    omega (arith, ap length (members_between-split has 0 d e (omega arith) le), length-append (members_between has 0 d) (members_between has d e))

pub rank-next : (has : ℕ → Bool) (d : ℕ) → has d ≡ true → rank has (d + 1) ≡ rank has d + 1
rank-next has d passes =
    ap length (members-more has d ∙ ap (λ b. members_between has 0 d ++ cond b (d ∷ []) []) passes) ∙ length_push (members_between has 0 d) d

pub rank-same : (has : ℕ → Bool) (d : ℕ) → has d ≡ false → rank has (d + 1) ≡ rank has d
rank-same has d fails =
    ap length (members-more has d ∙ ap (λ b. members_between has 0 d ++ cond b (d ∷ []) []) fails ∙ append-nil (members_between has 0 d))

-- a number that passes, below n, has this place
pub record StandsAt (has : ℕ → Bool) (n e d : ℕ) : Type 0 where
  pub passes : has d ≡ true
  pub below : d < n
  pub place : rank has d ≡ e

-- the number at each place
pub stands-at : (has : ℕ → Bool) (n e default : ℕ) → e < length (members_between has 0 n) → StandsAt has n e (get_or (members_between has 0 n) e default)
stands-at has zero e default below = absurd (omega (arith, below, length-members_between has 0 0))
stands-at has (suc n) e default below =
    let next : suc n ≡ n + 1 = omega arith in
    subst (λ m. StandsAt has m e (get_or (members_between has 0 m) e default)) (sym next)
    (at (has n) refl (stands-at has n e default) (subst (λ m. e < length (members_between has 0 m)) next below))
  where
    -- where it holds below n
    Earlier : Type 0
    Earlier = e < length (members_between has 0 n) → StandsAt has n e (get_or (members_between has 0 n) e default)

    before : Earlier → e < length (members_between has 0 n) → (l : List ℕ) → members_between has 0 (n + 1) ≡ members_between has 0 n ++ l →
        StandsAt has (n + 1) e (get_or (members_between has 0 (n + 1)) e default)
    before earlier less l is =
        let here = earlier less in
        subst (StandsAt has (n + 1) e)
        (sym (ap (λ xs. get_or xs e default) is ∙ get_or_append_left (members_between has 0 n) l default e less))
        (record { passes = here.passes; below = omega (arith, here.below); place = here.place })

    at : (b : Bool) → has n ≡ b → Earlier → e < length (members_between has 0 (n + 1)) → StandsAt has (n + 1) e (get_or (members_between has 0 (n + 1)) e default)
    at false fails earlier within =
        let is : members_between has 0 (n + 1) ≡ members_between has 0 n ++ [] = members-more has n ∙ ap (λ b. members_between has 0 n ++ cond b (n ∷ []) []) fails in
        before earlier (omega (arith, within, ap length (is ∙ append-nil (members_between has 0 n)))) [] is
    at true passes earlier within =
        let is : members_between has 0 (n + 1) ≡ members_between has 0 n ++ n ∷ [] = members-more has n ∙ ap (λ b. members_between has 0 n ++ cond b (n ∷ []) []) passes in
        elim (cases_lt e (length (members_between has 0 n))) [
          | inl less ↦ before earlier less (n ∷ []) is
          | inr past ↦
              let last : length (members_between has 0 n) ≡ e = omega (arith, within, ap length is, length_push (members_between has 0 n) n, past) in
              subst (StandsAt has (n + 1) e) (sym (ap (λ xs. get_or xs e default) is ∙ get_or_at (members_between has 0 n) n [] default e last))
              (record { passes = passes; below = omega arith; place = last })
        ]
