-- Word by word all are taken out.
use Rattle.std.proofs.Common.{◌≡◌, ◌∙◌, ℕ, ◌+◌, ◌*◌, List, false, arith, inl, inr, of_z, refl, subst, sym, to_z, w64}
use Rattle.std.proofs.lemmas.Bool.{cases_Bool, cases_lt, false≢true}
use Rattle.std.proofs.lemmas.Int.{to_z-of_z}
use Rattle.qm_term.specs.Cells.{RunsOver, Shown, all_shown, cells_has, cells_start, entries_shown}
use Rattle.qm_term.specs.Runs.{InRange, MayPrune}
use Rattle.qm_term.specs.RunScorers.{ticks_of}
use Rattle.qm_term.specs.Stretches.{GoesOn}
use Rattle.qm_term.proofs.StretchShown.{all_few, all_nothing, goes_further, goes_nowhere, lacks_before}
use Rattle.qm_term.proofs.wand.drain.drain.Goals as goal
use Rattle.qm_term.proofs.wand.drain.drain.Goals.{After-loop-word}
use Rattle.qm_term.proofs.wand.drain.drain.Given.{Over}

pub loop-word-init : goal.loop-word-init
loop-word-init g c =
    let w = c.args.cells.now in
    let is = to_z-of_z w64 c.args.threshold c.ranges.threshold in
    record {
      taken = record { had = λ d here. here; tidy = c.requires.tidy; alike = record { start = refl; end = refl; clear = refl } };
      within = c.requires.within;
      before = λ d from to. lacks_before w d (omega (arith, to));
      room = omega arith;
      may = rw is c.requires.callable;
      goes = goes_nowhere (InRange (goal.F-step g)) g.C.ScoreCombiner.value (to_z w64 (of_z w64 c.args.threshold)) c.args.callback.now c.args.cells.now _;
    }

pub drain_word-threshold-requires-clause-inside : goal.drain_word-threshold-requires-clause-inside
drain_word-threshold-requires-clause-inside g c = λ d here.
    omega (arith, c.requires.inside d (c.loop-word.invariant.taken.had d here), c.loop-word.invariant.taken.alike.end)

pub drain_word-threshold-requires-clause-before : goal.drain_word-threshold-requires-clause-before
drain_word-threshold-requires-clause-before g c = λ d from to.
    let inv = c.loop-word.invariant in
    inv.before d from (omega (arith, to, inv.taken.alike.start))

pub drain_word-threshold-requires-clause-room : goal.drain_word-threshold-requires-clause-room
drain_word-threshold-requires-clause-room g c =
    let w = c.args.cells.now in
    omega (arith, c.loop-word.invariant.room, all_few g.C.ScoreCombiner.value w, w.cells.ok.0, w.few, c.requires.room)

pub loop-word-preserved : goal.loop-word-preserved
loop-word-preserved g c =
    let inv = c.loop-word.invariant in
    let e = c.drain_word-threshold.ensures in
    let call = InRange (goal.F-step g) in
    let value = g.C.ScoreCombiner.value in
    let run = c.drain_word-threshold in
    let start = to_z w64 (of_z w64 c.args.threshold) in
    let th = to_z w64 c.loop-word.threshold-bits in
    let after = to_z w64 (of_z w64 run.result) in
    let same : after ≡ run.result = to_z-of_z w64 run.result (record { sfits = run.type_inv }) in
    record {
      taken = record {
        had = λ d here. inv.taken.had d (e.taken.had d here);
        tidy = e.taken.tidy;
        alike = record {
          start = e.taken.alike.start ∙ inv.taken.alike.start;
          end = e.taken.alike.end ∙ inv.taken.alike.end;
          clear = e.taken.alike.clear ∙ inv.taken.alike.clear;
        };
      };
      within = e.within;
      before = λ d from to. e.before d from (omega (arith, to, inv.taken.alike.start));
      room = omega (arith, e.room, inv.room);
      may = subst (λ t. MayPrune call (goal.F-pre g) t run.new.callback (entries_shown (all_shown value run.new.cells))) (sym same) e.callable;
      goes = goes_further call value start th after c.args.callback.now c.loop-word.callback run.new.callback c.args.cells.now c.loop-word.cells run.new.cells
          (ticks_of c.args.ticks.now) (ticks_of c.loop-word.ticks) (ticks_of run.new.ticks) inv.goes
          (subst (λ t. GoesOn call value th c.loop-word.callback c.loop-word.cells (ticks_of c.loop-word.ticks) t run.new.callback run.new.cells (ticks_of run.new.ticks))
          (sym same) e.run);
    }

-- nothing is left
left : (g : Over) (c : After-loop-word g) → (d : ℕ) → cells_has c.loop-word.cells d ≡ false
left g c = λ d.
    let inv = c.loop-word.invariant in
    elim (cases_lt d (cells_start c.args.cells.now + 64 * c.args.words)) [
      | inl before ↦ inv.before d (omega arith) (omega (arith, before, c.loop-word-test.false))
      | inr past ↦ elim (cases_Bool (cells_has c.loop-word.cells d)) [
        | inl here ↦ absurd (false≢true (sym (c.requires.beyond d past) ∙ inv.taken.had d here))
        | inr none ↦ none
      ]
    ]

pub returns-clause-clear : goal.returns-clause-clear
returns-clause-clear g c = λ d. (
  left g (goal.at.returns-clause-clear g c).After-loop-word d,
  c.loop-word.invariant.taken.tidy d (left g (goal.at.returns-clause-clear g c).After-loop-word d),
)

pub returns-clause-same : goal.returns-clause-same
returns-clause-same g c = c.loop-word.invariant.taken.alike.clear

pub returns-clause-few : goal.returns-clause-few
returns-clause-few g c =
    let w = c.args.cells.now in
    omega (arith, c.loop-word.invariant.room, all_few g.C.ScoreCombiner.value w, w.cells.ok.0, w.few)

pub returns-clause-run : goal.returns-clause-run
returns-clause-run g c =
    let call = InRange (goal.F-step g) in
    let value = g.C.ScoreCombiner.value in
    let th = to_z w64 c.loop-word.threshold-bits in
    let start = to_z w64 (of_z w64 c.args.threshold) in
    let is : start ≡ c.args.threshold = to_z-of_z w64 c.args.threshold c.ranges.threshold in
    let goes = c.loop-word.invariant.goes in
    let none = all_nothing value c.loop-word.cells (left g (goal.at.returns-clause-run g c).After-loop-word) in
    let ended = goes.back 0 th c.loop-word.callback
    (subst (λ (xs : List Shown). RunsOver call th c.loop-word.callback xs 0 th c.loop-word.callback) (sym none) (refl, refl, refl)) in
    let same : goes.count + 0 ≡ goes.count = omega arith in
    record {
      count = goes.count;
      counted = goes.counted;
      run = subst (λ t. RunsOver call t c.args.callback.now (all_shown value c.args.cells.now) goes.count th c.loop-word.callback) is
          (subst (λ (n : ℕ). RunsOver call start c.args.callback.now (all_shown value c.args.cells.now) n th c.loop-word.callback) same ended);
    }
