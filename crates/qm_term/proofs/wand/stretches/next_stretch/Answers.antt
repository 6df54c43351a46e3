-- Blocks are passed, or a stretch is taken.
use Rattle.std.proofs.Common.{◌≡◌, ◌∙◌, ℕ, ℤ, ◌+◌, ◌<◌, ◌≤ℤ◌, List, ap, arith, map, pos, subst, to_z, of_z, w64}
use Rattle.std.proofs.lemmas.Int.{to_z-of_z}
use Rattle.qm_docset.specs.declared.numbers.TheConstants.{TERMINATED}
use Rattle.qm_term.specs.Cells.{cells_clear, cuts}
use Rattle.qm_term.specs.HeadRow.{row_lists}
use Rattle.qm_term.specs.Members.{AreMembers, Member}
use Rattle.qm_term.specs.Pivot.{Passes, Pruned, blockbound, pivot_bounds, skip, total_top}
use Rattle.qm_term.specs.Runs.{InRange}
use Rattle.qm_term.specs.RunScorers.{wand_member}
use Rattle.qm_term.proofs.RowRecords.{row_members}
use Rattle.qm_term.proofs.RowStretch.{cuts_from, from_cuts}
use Rattle.qm_term.proofs.StretchCuts.{AreCut-cuts, cuts_members, passes_cuts}
use Rattle.qm_term.proofs.WandBounds.{blockbound_le_pivot, low_le, skip_past}
use Rattle.qm_term.proofs.WandPlain.{pass_may, pass_step}
use Rattle.qm_term.proofs.WandRows.{pivot_bounds_le}
use Rattle.qm_term.proofs.WandSteps.{tops_cut}
use Rattle.qm_term.specs.contracts.wand.stretches.next_stretch.F-FnMut as fnmut
use Rattle.qm_term.proofs.wand.stretches.next_stretch.Goals as goal

-- how far the blocks allow to pass
skipped : (ls ms : List Member) (low next : ℕ) → ms ≡ ls → next ≡ skip low ms → next ≡ skip low ls
skipped ls ms low next e h = h ∙ ap (skip low) e

-- what they bound is passed
quiet : (th : ℤ) (low next bounds : ℕ) (ls : List Member) → AreMembers ls → bounds ≡ pivot_bounds low ls → pos bounds ≤ℤ th → next ≡ skip low ls →
    low < TERMINATED → Passes th next (cuts low ls) (cuts next ls)
quiet th low next bounds ls are is under reach below =
    passes_cuts th low next ls are (omega (arith, reach, skip_past low ls below)) (λ d from to held.
    low_le th (blockbound d ls) bounds (omega (arith, is, blockbound_le_pivot low d ls are from (omega (arith, to, reach)))) under)

pub is_above-requires : goal.is_above-requires
is_above-requires g c =
    let ls = row_lists c.args.scorers.now c.args.heads.now in
    omega (
      arith,
      c.bounds_from-bounds.ensures.bounds,
      pivot_bounds_le c.args.low ls (row_members c.args.scorers.now c.args.heads.now c.requires.heads),
      c.requires.fits,
    )

pub returns-then-not-is_above-clause-fits : goal.returns-then-not-is_above-clause-fits
returns-then-not-is_above-clause-fits g c = ap total_top c.bounds_from-bounds.ensures.lists

pub returns-then-not-is_above-clause-past : goal.returns-then-not-is_above-clause-past
returns-then-not-is_above-clause-past g c =
    let ls = row_lists c.args.scorers.now c.args.heads.now in
    let gs = c.bounds_from-bounds.new.heads in
    let ts = c.bounds_from-bounds.new.scorers in
    let reach = skipped ls (row_lists ts gs) c.args.low c.skip_from-next.result c.bounds_from-bounds.ensures.lists
    (c.skip_from-next.ensures.skip (map wand_member ts) c.bounds_from-bounds.ensures.heads.records c.bounds_from-bounds.ensures.known) in
    omega (arith, reach, skip_past c.args.low ls c.requires.below)

pub returns-then-not-is_above-clause-run : goal.returns-then-not-is_above-clause-run
returns-then-not-is_above-clause-run g c =
    let w = fnmut.words g.row.C g.row.F g.row.N g.F.FnMut in
    let ls = row_lists c.args.scorers.now c.args.heads.now in
    let gs = c.bounds_from-bounds.new.heads in
    let ts = c.bounds_from-bounds.new.scorers in
    let th = c.args.threshold in
    let low : ℕ = c.args.low in
    let next : ℕ = c.skip_from-next.result in
    let own = (cells_clear c.args.cells.now).state in
    let combined = g.C.ScoreCombiner.combined own in
    let is : to_z w64 (of_z w64 th) ≡ th = to_z-of_z w64 th c.ranges.threshold in
    let are : AreMembers ls = row_members c.args.scorers.now c.args.heads.now c.requires.heads in
    let reach = skipped ls (row_lists ts gs) low next c.bounds_from-bounds.ensures.lists
    (c.skip_from-next.ensures.skip (map wand_member ts) c.bounds_from-bounds.ensures.heads.records c.bounds_from-bounds.ensures.known) in
    let under : pos c.bounds_from-bounds.result ≤ℤ th = rw is at (c.is_above.ensures.no c.if-not-is_above.true) in
    let passes = quiet th low next c.bounds_from-bounds.result ls are c.bounds_from-bounds.ensures.bounds under reach c.requires.below in
    record {
      count = 0;
      counted = omega arith;
      back = λ k last h p.
          let at_next = rw (is, c.bounds_from-bounds.ensures.lists) at p in
          let same : k ≡ 0 + k = omega arith in
          subst (λ (n : ℕ). Pruned (InRange w.step) combined th c.args.callback.now (cuts low ls) n last h) same
          (pass_step combined (g.met.C.BoundedBySum.within_sum own) (InRange w.step) th next (cuts low ls) (cuts next ls)
          (cuts_members low ls are) (cuts_members next ls are) passes c.args.callback.now h last k at_next);
    }

pub returns-then-not-is_above-clause-callable : goal.returns-then-not-is_above-clause-callable
returns-then-not-is_above-clause-callable g c =
    let w = fnmut.words g.row.C g.row.F g.row.N g.F.FnMut in
    let ls = row_lists c.args.scorers.now c.args.heads.now in
    let gs = c.bounds_from-bounds.new.heads in
    let ts = c.bounds_from-bounds.new.scorers in
    let th = c.args.threshold in
    let low : ℕ = c.args.low in
    let next : ℕ = c.skip_from-next.result in
    let own = (cells_clear c.args.cells.now).state in
    let combined = g.C.ScoreCombiner.combined own in
    let is : to_z w64 (of_z w64 th) ≡ th = to_z-of_z w64 th c.ranges.threshold in
    let are : AreMembers ls = row_members c.args.scorers.now c.args.heads.now c.requires.heads in
    let reach = skipped ls (row_lists ts gs) low next c.bounds_from-bounds.ensures.lists
    (c.skip_from-next.ensures.skip (map wand_member ts) c.bounds_from-bounds.ensures.heads.records c.bounds_from-bounds.ensures.known) in
    let under : pos c.bounds_from-bounds.result ≤ℤ th = rw is at (c.is_above.ensures.no c.if-not-is_above.true) in
    let passes = quiet th low next c.bounds_from-bounds.result ls are c.bounds_from-bounds.ensures.bounds under reach c.requires.below in
    let may = pass_may combined (g.met.C.BoundedBySum.within_sum own) (InRange w.step) th next (cuts low ls) (cuts next ls)
    (cuts_members low ls are) (cuts_members next ls are) passes w.pre c.args.callback.now c.requires.callable in
    rw (is, c.bounds_from-bounds.ensures.lists) may

pub stretch_end-end-requires-clause-next : goal.stretch_end-end-requires-clause-next
stretch_end-end-requires-clause-next g c =
    let ls = row_lists c.args.scorers.now c.args.heads.now in
    let gs = c.bounds_from-bounds.new.heads in
    let ts = c.bounds_from-bounds.new.scorers in
    let reach = skipped ls (row_lists ts gs) c.args.low c.skip_from-next.result c.bounds_from-bounds.ensures.lists
    (c.skip_from-next.ensures.skip (map wand_member ts) c.bounds_from-bounds.ensures.heads.records c.bounds_from-bounds.ensures.known) in
    omega (arith, reach, skip_past c.args.low ls c.requires.below)

pub take_stretch-after-requires-clause-fits : goal.take_stretch-after-requires-clause-fits
take_stretch-after-requires-clause-fits g c = omega (arith, ap total_top c.bounds_from-bounds.ensures.lists, c.requires.fits)

pub take_stretch-after-requires-clause-callable : goal.take_stretch-after-requires-clause-callable
take_stretch-after-requires-clause-callable g c =
    rw (to_z-of_z w64 c.args.threshold c.ranges.threshold, c.bounds_from-bounds.ensures.lists) c.requires.callable

pub returns-clause-fits : goal.returns-clause-fits
returns-clause-fits g c =
    let us = row_lists c.bounds_from-bounds.new.scorers c.bounds_from-bounds.new.heads in
    omega (
      arith,
      ap total_top c.take_stretch-after.ensures.lists,
      tops_cut c.stretch_end-end.result us (cuts c.stretch_end-end.result us) (AreCut-cuts c.stretch_end-end.result us),
      ap total_top c.bounds_from-bounds.ensures.lists,
    )

pub returns-clause-past : goal.returns-clause-past
returns-clause-past g c =
    let from = from_cuts c.bounds_from-bounds.new.scorers c.take_stretch-after.new.scorers c.bounds_from-bounds.new.heads c.take_stretch-after.new.heads
    c.stretch_end-end.result c.bounds_from-bounds.ensures.heads c.take_stretch-after.ensures.heads c.take_stretch-after.ensures.lists c.stretch_end-end.ensures.end in
    omega (arith, c.first_doc.ensures.from c.stretch_end-end.result c.stretch_end-end.ensures.end from, c.stretch_end-end.ensures.some)

pub returns-clause-run : goal.returns-clause-run
returns-clause-run g c =
    let same = c.bounds_from-bounds.ensures.lists in
    let is = to_z-of_z w64 c.args.threshold c.ranges.threshold in
    let all = cuts_from c.take_stretch-after.new.scorers c.take_stretch-after.new.heads c.first_doc.result
    c.take_stretch-after.ensures.heads c.first_doc.ensures.least in
    let after = c.take_stretch-after.result in
    let is_after : to_z w64 (of_z w64 after) ≡ after = to_z-of_z w64 after (record { sfits = c.take_stretch-after.type_inv }) in
    let run = rw (is, same) at c.take_stretch-after.ensures.run in
    record {
      count = run.count;
      counted = run.counted;
      back = λ k last h p. run.back k last h (rw (is_after, all, c.take_stretch-after.ensures.lists, same) at p);
    }

pub returns-clause-callable : goal.returns-clause-callable
returns-clause-callable g c =
    let all = cuts_from c.take_stretch-after.new.scorers c.take_stretch-after.new.heads c.first_doc.result
    c.take_stretch-after.ensures.heads c.first_doc.ensures.least in
    let after = c.take_stretch-after.result in
    let is_after : to_z w64 (of_z w64 after) ≡ after = to_z-of_z w64 after (record { sfits = c.take_stretch-after.type_inv }) in
    rw (is_after, all, c.take_stretch-after.ensures.lists) c.take_stretch-after.ensures.callable
