-- A state counts the scores that it took.
use Rattle.std.proofs.Common.{◌≡◌, ℕ, ◌+◌, ◌≤◌, ◌&&◌, List, [], ◌∷◌, fold, nat_le, length, min, ap, ap₂, arith, sym, Bool, ◌∙◌, inl, inr}
use Rattle.std.proofs.lemmas.Bool.{and_right, cases_lt, le-leb, lt-leb}
use Rattle.qm_combine.specs.Counted.{counted_step, most_counted}
use Rattle.qm_combine.specs.Window.{window_combiner, window_state}
use Rattle.qm_combine.specs.declared.counted.Counted.{Counted}
use Rattle.qm_combine.proofs.union.least_members.AtLeastLeastMembersCounted.keep_enough.Goals as goal

counted-count : {C : Type 0} (step : C → ℕ → C) (c : Counted C) (xs : List ℕ) → c.count ≤ most_counted
    → (fold (counted_step step) c xs).count ≡ min (c.count + length xs) most_counted
counted-count step c [] most = omega arith
counted-count step c (x ∷ xs) most = omega (arith, counted-count step (counted_step step c x) xs (omega arith))

-- what counts up to more than is asked tells as much as the number itself
enough : (m n most : ℕ) → 1 ≤ m → m ≤ most → (nat_le 1 n && nat_le m (min n most)) ≡ nat_le m n
enough m n most some few = elim (cases_lt n m) [
  | inl less ↦ and_right (nat_le 1 n) _ (lt-leb m (min n most) (omega arith)) ∙ sym (lt-leb m n less)
  | inr many ↦ ap₂ (λ (a b : Bool). a && b) (le-leb 1 n (omega arith)) (le-leb m (min n most) (omega arith)) ∙ sym (le-leb m n many)
]

pub returns : goal.returns
returns g c =
    let s = c.args.self.now in
    let w = c.args.window.now in
    let e = c.keep_enough.ensures in
    let none = ap (λ (k : Counted g.row.C.Denot). k.count) c.requires.cleared.is in
    record {
      documents = λ d scores had state.
          let counted = counted-count g.C.ScoreCombiner.step (window_combiner w) scores (omega (arith, none)) in
          let many : (window_state w d).count ≡ min (length scores) most_counted = omega (
            arith,
            none,
            counted,
            ap (λ (k : Counted g.row.C.Denot). k.count) state,
          ) in
          e.documents d ∙ ap₂ (λ (a b : Bool). a && b) had (ap (nat_le s.minimum) many) ∙ enough s.minimum (length scores) most_counted s.some s.countable;
      states = e.states;
      combiner = e.combiner;
      until = e.until;
    }
