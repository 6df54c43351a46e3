-- A turn leaves the run over what all have left still to be made.
use Rattle.std.proofs.Common.{◌≡◌, ◌∙◌, ℕ, ℤ, ◌+◌, ◌<◌, ◌^◌, List, [], ◌∷◌, cond, get_or, rules, ap, arith, subst, sym, of_z, to_z, w64}
use Rattle.std.proofs.lemmas.Int.{to_z-of_z}
use Rattle.std.proofs.lemmas.List.Elements.{All-head}
use mir.Val.{SFits, bool_byte}
use Rattle.qm_combine.specs.HeldSum.{held_sum}
use Rattle.qm_docset.specs.Entry.{Entry, head_document}
use Rattle.qm_docset.specs.Gather.{common_entries}
use Rattle.qm_term.specs.Conjunction.{IsBoundedIn, PrunesBy, common_left, turns_of}
use Rattle.qm_term.specs.Runs.{InRange, MayPrune}
use Rattle.qm_term.specs.TermScorer.{IsTermScorer}
use Rattle.qm_term.proofs.SharedRuns.{ended, ended_common}
use Rattle.qm_term.proofs.WandTurns.{at_most, counted}
use Rattle.qm_term.proofs.wand.conjunction.run_all.Goals as goal

pub doc-doc-requires-clause-valid : goal.doc-doc-requires-clause-valid
doc-doc-requires-clause-valid g c = All-head IsTermScorer c.args.leader.now c.args.others.now c.requires.valid

pub loop-doc-init : goal.loop-doc-init
loop-doc-init g c =
    let step = goal.F-step g in
    let es = common_left (c.args.leader.now ∷ c.args.others.now) in
    let th = c.args.threshold in
    let is : to_z w64 (of_z w64 th) ≡ th = to_z-of_z w64 th c.ranges.threshold in
    record {
      valid = c.requires.valid;
      here = c.doc-doc.ensures;
      end = omega arith;
      most = omega arith;
      bounded = λ k d l past within. absurd (omega (arith, within));
      few = omega arith;
      may = rw is c.requires.callable;
      back = λ k h p.
          let same : k ≡ 0 + k = omega arith in
          subst (λ (n : ℕ). PrunesBy step es (to_z w64 (of_z w64 th)) c.args.callback.now (turns_of n) h) same p;
    }

pub stretch_at-stretch-requires-clause-valid : goal.stretch_at-stretch-requires-clause-valid
stretch_at-stretch-requires-clause-valid g c = c.loop-doc.invariant.valid

pub stretch_at-stretch-requires-clause-below : goal.stretch_at-stretch-requires-clause-below
stretch_at-stretch-requires-clause-below g c = c.loop-doc-test.true

pub stretch_at-stretch-requires-clause-end : goal.stretch_at-stretch-requires-clause-end
stretch_at-stretch-requires-clause-end g c = c.loop-doc.invariant.end

pub stretch_at-stretch-requires-clause-bound : goal.stretch_at-stretch-requires-clause-bound
stretch_at-stretch-requires-clause-bound g c = c.loop-doc.invariant.most

pub stretch_at-stretch-requires-clause-bounded : goal.stretch_at-stretch-requires-clause-bounded
stretch_at-stretch-requires-clause-bounded g c = c.loop-doc.invariant.bounded

pub turn_all-turned-requires-clause-valid : goal.turn_all-turned-requires-clause-valid
turn_all-turned-requires-clause-valid g c = c.stretch_at-stretch.ensures.valid

pub turn_all-turned-requires-clause-here : goal.turn_all-turned-requires-clause-here
turn_all-turned-requires-clause-here g c =
    c.loop-doc.invariant.here ∙ sym (ap (λ (ess : List (List Entry)). head_document (get_or ess 0 [])) c.stretch_at-stretch.ensures.lists)

pub turn_all-turned-requires-clause-below : goal.turn_all-turned-requires-clause-below
turn_all-turned-requires-clause-below g c = c.loop-doc-test.true

pub turn_all-turned-requires-clause-past : goal.turn_all-turned-requires-clause-past
turn_all-turned-requires-clause-past g c = c.stretch_at-stretch.ensures.past

pub turn_all-turned-requires-clause-end : goal.turn_all-turned-requires-clause-end
turn_all-turned-requires-clause-end g c = c.stretch_at-stretch.ensures.end

pub turn_all-turned-requires-clause-bound : goal.turn_all-turned-requires-clause-bound
turn_all-turned-requires-clause-bound g c = c.stretch_at-stretch.ensures.bound

pub turn_all-turned-requires-clause-bounded : goal.turn_all-turned-requires-clause-bounded
turn_all-turned-requires-clause-bounded g c =
    let known = c.stretch_at-stretch in
    subst (IsBoundedIn c.loop-doc.doc known.result.next known.result.bound) (sym (ap (common_entries held_sum) known.ensures.lists)) known.ensures.bounded

pub turn_all-turned-requires-clause-callable : goal.turn_all-turned-requires-clause-callable
turn_all-turned-requires-clause-callable g c =
    let known = c.stretch_at-stretch in
    subst (λ (l : List Entry). MayPrune (InRange (goal.F-step g)) (goal.F-pre g) (to_z w64 c.loop-doc.threshold-bits) c.loop-doc.callback l)
    (sym (ap (common_entries held_sum) known.ensures.lists)) c.loop-doc.invariant.may

pub overflow_add-ticks : goal.overflow_add-ticks
overflow_add-ticks g c =
    let few : c.loop-doc.ticks + bool_byte c.turn_all-turned.result.ticked < 2 ^ 128 =
    omega (arith, c.loop-doc.invariant.few, c.loop-doc-test.true, counted c.turn_all-turned.result.ticked, at_most c.turn_all-turned.result.ticked) in
    search rules

pub loop-doc-preserved : goal.loop-doc-preserved
loop-doc-preserved g c =
    let step = goal.F-step g in
    let had = c.loop-doc.invariant in
    let known = c.stretch_at-stretch in
    let turned = c.turn_all-turned in
    let r = turned.result in
    let th = to_z w64 c.loop-doc.threshold-bits in
    let fits : SFits w64 r.threshold = search rules in
    let is : to_z w64 (of_z w64 r.threshold) ≡ r.threshold = to_z-of_z w64 r.threshold fits in
    let same = ap (common_entries held_sum) known.ensures.lists in
    record {
      valid = turned.ensures.valid;
      here = turned.ensures.here;
      end = known.ensures.end;
      most = known.ensures.bound;
      bounded = turned.ensures.bounded;
      few = omega (arith, had.few, turned.ensures.later, counted r.ticked, at_most r.ticked);
      may = rw is turned.ensures.callable;
      back = λ k h p.
          let n = cond r.ticked 1 0 + k in
          let made = turned.ensures.run k h (rw is at p) in
          let count : c.loop-doc.ticks + n ≡ c.loop-doc.ticks + bool_byte r.ticked + k = omega (arith, counted r.ticked) in
          subst (λ (m : ℕ). PrunesBy step (common_left (c.args.leader.now ∷ c.args.others.now)) (to_z w64 (of_z w64 c.args.threshold)) c.args.callback.now (turns_of m) h)
          count
          (had.back n h (subst (λ (l : List Entry). PrunesBy step l th c.loop-doc.callback (turns_of n) h) same made));
    }

pub loop-doc-smaller : goal.loop-doc-smaller
loop-doc-smaller g c = omega (arith, c.turn_all-turned.ensures.later, c.loop-doc-test.true)

pub returns : goal.returns
returns g c =
    let step = goal.F-step g in
    let had = c.loop-doc.invariant in
    let es = common_left (c.args.leader.now ∷ c.args.others.now) in
    let th = to_z w64 c.loop-doc.threshold-bits in
    let f = c.args.callback.now in
    let z = c.loop-doc.callback in
    let is : to_z w64 (of_z w64 c.args.threshold) ≡ c.args.threshold = to_z-of_z w64 c.args.threshold c.ranges.threshold in
    let none = ended_common c.loop-doc.leader c.loop-doc.others had.valid (omega (arith, c.loop-doc-test.false, had.here)) in
    let all = had.back 0 z (ended step th z (common_left (c.loop-doc.leader ∷ c.loop-doc.others)) none) in
    let count : c.loop-doc.ticks + 0 ≡ c.loop-doc.ticks = omega arith in
    record {
      run = subst (λ (n : ℕ). PrunesBy step es c.args.threshold f (turns_of n) z) count
          (subst (λ (t : ℤ). PrunesBy step es t f (turns_of (c.loop-doc.ticks + 0)) z) is all);
    }
