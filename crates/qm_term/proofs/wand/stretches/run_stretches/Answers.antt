-- Stretch by stretch the run goes on.
use Rattle.std.proofs.Common.{◌≡◌, ◌∙◌, ℕ, ◌+◌, arith, of_z, refl, rules, subst, to_z, w64}
use Rattle.std.proofs.lemmas.Int.{to_z-of_z}
use mir.Val.{SFits}
use Rattle.qm_term.specs.Cells.{cells_clear, cuts}
use Rattle.qm_term.specs.HeadRow.{row_lists}
use Rattle.qm_term.specs.Members.{AreMembers}
use Rattle.qm_term.specs.Pivot.{Pruned}
use Rattle.qm_term.specs.Runs.{InRange}
use Rattle.qm_term.specs.RunScorers.{ticks_of}
use Rattle.qm_term.proofs.RowRecords.{row_members}
use Rattle.qm_term.proofs.RowStretch.{cuts_from}
use Rattle.qm_term.proofs.StretchCuts.{cuts_members, held_from}
use Rattle.qm_term.proofs.WandBounds.{held_started}
use Rattle.qm_term.proofs.WandPlain.{pruned_none}
use Rattle.qm_term.specs.contracts.wand.stretches.run_stretches.F-FnMut as fnmut
use Rattle.qm_term.proofs.wand.stretches.run_stretches.Goals as goal

pub loop-low-init : goal.loop-low-init
loop-low-init g c =
    let w = fnmut.words g.row.C g.row.F g.row.N g.F.FnMut in
    let hs = c.args.heads.now in
    let ss = c.args.scorers.now in
    let ls = row_lists ss hs in
    let th = c.args.threshold in
    let combined = g.C.ScoreCombiner.combined (cells_clear c.args.cells.now).state in
    let is = to_z-of_z w64 th c.ranges.threshold in
    let all : cuts c.first_doc-low.result ls ≡ ls = cuts_from ss hs c.first_doc-low.result c.requires.heads c.first_doc-low.ensures.least in
    record {
      heads = c.requires.heads;
      fits = c.requires.fits;
      clear = c.requires.clear;
      same = refl;
      below = c.first_doc-low.ensures.end;
      few = omega (arith, c.requires.none);
      may = rw (is, all) c.requires.callable;
      back = λ k last h p.
          let same : k ≡ ticks_of c.args.ticks.now + k = omega (arith, c.requires.none) in
          subst (λ (n : ℕ). Pruned (InRange w.step) combined (to_z w64 (of_z w64 th)) c.args.callback.now ls n last h) same (rw all at p);
    }

pub next_stretch-moved-requires-clause-begins : goal.next_stretch-moved-requires-clause-begins
next_stretch-moved-requires-clause-begins g c = rw c.loop-low.invariant.same c.requires.begins

pub next_stretch-moved-requires-clause-room : goal.next_stretch-moved-requires-clause-room
next_stretch-moved-requires-clause-room g c = omega (arith, c.loop-low.invariant.few, c.loop-low-test.true)

pub next_stretch-moved-requires-clause-callable : goal.next_stretch-moved-requires-clause-callable
next_stretch-moved-requires-clause-callable g c = rw c.loop-low.invariant.same c.loop-low.invariant.may

pub loop-low-preserved : goal.loop-low-preserved
loop-low-preserved g c =
    let w = fnmut.words g.row.C g.row.F g.row.N g.F.FnMut in
    let inv = c.loop-low.invariant in
    let moved = c.next_stretch-moved in
    let combined = g.C.ScoreCombiner.combined (cells_clear c.args.cells.now).state in
    let r = moved.result in
    let fits : SFits w64 r.threshold = search rules in
    let is : to_z w64 (of_z w64 r.threshold) ≡ r.threshold = to_z-of_z w64 r.threshold fits in
    let run = rw inv.same at moved.ensures.run in
    let may = rw inv.same at moved.ensures.callable in
    record {
      heads = moved.ensures.heads;
      fits = omega (arith, moved.ensures.fits, inv.fits);
      clear = moved.ensures.clear;
      same = moved.ensures.same ∙ inv.same;
      below = moved.ensures.end;
      few = omega (arith, moved.ensures.few, inv.few, moved.ensures.past);
      may = rw is may;
      back = λ k last h p.
          let again = inv.back (run.count + k) last h (run.back k last h (rw is at p)) in
          let same : ticks_of c.loop-low.ticks + (run.count + k) ≡ ticks_of moved.new.ticks + k = omega (arith, run.counted) in
          subst (λ (n : ℕ). Pruned (InRange w.step) combined (to_z w64 (of_z w64 c.args.threshold)) c.args.callback.now
          (row_lists c.args.scorers.now c.args.heads.now) n last h) same again;
    }

pub returns : goal.returns
returns g c =
    let w = fnmut.words g.row.C g.row.F g.row.N g.F.FnMut in
    let inv = c.loop-low.invariant in
    let th = to_z w64 c.loop-low.threshold-bits in
    let is = to_z-of_z w64 c.args.threshold c.ranges.threshold in
    let own = (cells_clear c.args.cells.now).state in
    let combined = g.C.ScoreCombiner.combined own in
    let ls = row_lists c.loop-low.scorers c.loop-low.heads in
    let are : AreMembers ls = row_members c.loop-low.scorers c.loop-low.heads inv.heads in
    let left : AreMembers (cuts c.loop-low.low ls) = cuts_members c.loop-low.low ls are in
    let none = pruned_none combined (g.met.C.BoundedBySum.within_sum own) (InRange w.step) th c.loop-low.callback
    (cuts c.loop-low.low ls) left (λ d held. absurd (omega (
      arith,
      held_from c.loop-low.low d ls held,
      (held_started d (cuts c.loop-low.low ls) left held).1,
      c.loop-low-test.false,
    ))) in
    let all = inv.back 0 th c.loop-low.callback none in
    let same : ticks_of c.loop-low.ticks + 0 ≡ ticks_of c.loop-low.ticks = omega arith in
    record {
      run = record {
        last = th;
        run = subst (λ (n : ℕ). Pruned (InRange w.step) combined c.args.threshold c.args.callback.now
            (row_lists c.args.scorers.now c.args.heads.now) n th c.loop-low.callback) same (rw is at all);
      };
    }
