-- A document that is there lies in the window.
use Rattle.std.proofs.Common.{◌≡◌, ◌<◌, ◌≤◌, ◌-◌, get_or, length, sym, arith, ◌∙◌, true, ℕ, refl, true≢false, inl, inr}
use Rattle.std.proofs.lemmas.Bool.{cases_lt}
use Rattle.std.proofs.lemmas.List.{get_or_read}
use Rattle.qm_combine.specs.Window.{window_has, window_state}
use Rattle.qm_combine.specs.declared.union.window.Window.{Window}
use Rattle.qm_combine.proofs.WindowWords.{has_at-before, get_or-past}
use Rattle.qm_combine.proofs.union.window.Window.state.Goals as goal

starts : {C : Type 0} (w : Window C) (d : ℕ) → window_has w d ≡ true → w.start ≤ d
unfolding window_has
starts w d here = elim (cases_lt d w.start) [
  | inl before ↦ absurd (true≢false (sym here ∙ has_at-before w.start w.buckets.items d before))
  | inr past ↦ past
]

pub overflow_sub-place : goal.overflow_sub-place
overflow_sub-place g c = omega (arith, starts c.args.self.now c.args.doc c.requires)

-- the state that was made
pub returns-then-place-len : goal.returns-then-place-len
unfolding window_state
returns-then-place-len g c =
    let w = c.args.self.now in
    let inside : c.args.doc - w.start < length w.states.items = omega (arith, c.if-place-len.true, w.states.ok.0) in
    get_or_read w.states.items (c.args.doc - w.start) c.index.result.now inside c.index.ensures w.combiner ∙ rw c.requires refl

-- none was made: it counts as cleared
pub returns-else-place-len : goal.returns-else-place-len
unfolding window_state
returns-else-place-len g c =
    let w = c.args.self.now in
    let none : get_or w.states.items (c.args.doc - w.start) w.combiner ≡ w.combiner =
    get_or-past w.states.items (c.args.doc - w.start) w.combiner (omega (arith, c.if-place-len.false, w.states.ok.0)) in
    sym (rw c.requires none)
