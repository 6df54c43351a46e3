-- The cells are filled and gone over: the run over what they show is one over the lists.
use Rattle.std.proofs.Common.{◌≡◌, ◌∙◌, ℕ, ◌+◌, ◌≤◌, List, ap, arith, fold, length, of_z, sym, to_z, w64}
use Rattle.std.proofs.lemmas.Int.{to_z-of_z}
use Rattle.qm_docset.specs.Entry.{greatest_score}
use Rattle.qm_term.specs.Cells.{all_shown, cells_clear, cells_start, cuts}
use Rattle.qm_term.specs.HeadRow.{row_lists}
use Rattle.qm_term.specs.Members.{AreMembers}
use Rattle.qm_term.specs.Pivot.{total_top}
use Rattle.qm_term.specs.Runs.{InRange}
use Rattle.qm_term.specs.declared.wand.cells.Cell.{Cell}
use Rattle.qm_term.proofs.RowRecords.{row_members}
use Rattle.qm_term.proofs.StretchCells.{holds_tidy, shown_within}
use Rattle.qm_term.proofs.StretchCuts.{AreCut-cuts, cuts_members}
use Rattle.qm_term.proofs.StretchRuns.{may_all, may_all_after, run_all}
use Rattle.qm_term.proofs.WandSteps.{tops_cut}
use Rattle.qm_term.specs.contracts.wand.stretches.take_stretch.F-FnMut as fnmut
use Rattle.qm_term.proofs.wand.stretches.take_stretch.Goals as goal

-- what is made of the scores in a cell
made : {C : Type 0} (step : C → ℕ → C) (value : C → ℕ) (cleared : C → C) (combined : C → List ℕ → ℕ)
    → ((c : C) (xs : List ℕ) → value (fold step (cleared c) xs) ≡ combined c xs) → ((c : C) → combined (cleared c) ≡ combined c)
    → (start first now : C) → first ≡ cleared start → now ≡ first → (xs : List ℕ) → value (fold step now xs) ≡ combined first xs
made step value cleared combined combines keeps start first now begins same xs =
    ap (λ s. value (fold step s xs)) (same ∙ begins) ∙ combines start xs ∙ sym (ap (λ (f : List ℕ → ℕ). f xs) (keeps start))
    ∙ ap (λ s. combined s xs) (sym begins)

pub fill-requires-clause-begins : goal.fill-requires-clause-begins
fill-requires-clause-begins g c = rw c.begin.ensures.same c.requires.begins

pub fill-requires-clause-end : goal.fill-requires-clause-end
fill-requires-clause-end g c = omega (arith, c.begin.ensures.end, c.requires.some)

pub drain-requires-clause-tidy : goal.drain-requires-clause-tidy
drain-requires-clause-tidy g c =
    let ls = row_lists c.args.scorers.now c.args.heads.now in
    holds_tidy g.C.ScoreCombiner.step c.args.span.end (cuts c.args.span.low ls) c.fill.new.cells c.fill.ensures.holds
    (ap (λ (x : Cell _). x.bound) (c.fill.ensures.alike.clear ∙ c.begin.ensures.same) ∙ c.requires.begins.bound)

pub drain-requires-clause-within : goal.drain-requires-clause-within
unfolding all_shown
drain-requires-clause-within g c =
    let hs = c.args.heads.now in
    let ss = c.args.scorers.now in
    let ls = row_lists ss hs in
    let w = c.fill.new.cells in
    let first = (cells_clear c.args.cells.now).state in
    let are : AreMembers (cuts c.args.span.low ls) = cuts_members c.args.span.low ls (row_members ss hs c.requires.heads) in
    let fits : total_top (cuts c.args.span.low ls) ≤ greatest_score = omega (arith, tops_cut c.args.span.low ls (cuts c.args.span.low ls) (AreCut-cuts c.args.span.low ls), c.requires.fits) in
    shown_within g.C.ScoreCombiner.step c.args.span.end (cuts c.args.span.low ls) w c.fill.ensures.holds (g.C.ScoreCombiner.combined first)
    (g.met.C.BoundedBySum.within_sum first) g.C.ScoreCombiner.value
    (made g.C.ScoreCombiner.step g.C.ScoreCombiner.value g.C.ScoreCombiner.cleared g.C.ScoreCombiner.combined g.met.C.ScoreCombiner.combines
    g.met.C.ScoreCombiner.clear_keeps c.requires.begins.state.start first (cells_clear w).state c.requires.begins.state.is
    (ap (λ (x : Cell _). x.state) (c.fill.ensures.alike.clear ∙ c.begin.ensures.same))) are fits (length w.cells.items) (cells_start w)

pub drain-requires-clause-words : goal.drain-requires-clause-words
drain-requires-clause-words g c = omega (arith, c.requires.most, c.requires.some)

pub drain-requires-clause-beyond : goal.drain-requires-clause-beyond
drain-requires-clause-beyond g c = λ d past.
    (c.fill.ensures.holds.beyond d (omega (arith, past, c.fill.ensures.alike.start, c.begin.ensures.start, c.requires.some))).0

pub drain-requires-clause-callable : goal.drain-requires-clause-callable
drain-requires-clause-callable g c =
    let w' = fnmut.words g.row.C g.row.F g.row.N g.F.FnMut in
    let hs = c.args.heads.now in
    let ss = c.args.scorers.now in
    let ls = row_lists ss hs in
    let w = c.fill.new.cells in
    let first = (cells_clear c.args.cells.now).state in
    let th = c.args.threshold in
    rw (to_z-of_z w64 th c.ranges.threshold)
    (may_all (InRange w'.step) (g.C.ScoreCombiner.combined first) (g.met.C.BoundedBySum.within_sum first) g.C.ScoreCombiner.step
    g.C.ScoreCombiner.value c.args.span.low c.args.span.end ls (row_members ss hs c.requires.heads) w
    (made g.C.ScoreCombiner.step g.C.ScoreCombiner.value g.C.ScoreCombiner.cleared g.C.ScoreCombiner.combined g.met.C.ScoreCombiner.combines
    g.met.C.ScoreCombiner.clear_keeps c.requires.begins.state.start first (cells_clear w).state c.requires.begins.state.is
    (ap (λ (x : Cell _). x.state) (c.fill.ensures.alike.clear ∙ c.begin.ensures.same))) c.fill.ensures.holds
    (c.fill.ensures.alike.start ∙ c.begin.ensures.start) (omega (arith, c.requires.some)) w'.pre th c.args.callback.now c.requires.callable)

pub returns-clause-same : goal.returns-clause-same
returns-clause-same g c = c.drain.ensures.same ∙ c.fill.ensures.alike.clear ∙ c.begin.ensures.same

pub returns-clause-run : goal.returns-clause-run
returns-clause-run g c =
    let w' = fnmut.words g.row.C g.row.F g.row.N g.F.FnMut in
    let hs = c.args.heads.now in
    let ss = c.args.scorers.now in
    let ls = row_lists ss hs in
    let w = c.fill.new.cells in
    let first = (cells_clear c.args.cells.now).state in
    let th = c.args.threshold in
    let start : cells_start w ≡ c.args.span.low = c.fill.ensures.alike.start ∙ c.begin.ensures.start in
    let covers : c.args.span.end ≤ c.args.span.low + length w.cells.items = omega (arith, start, c.fill.ensures.alike.end, c.begin.ensures.end, c.requires.some) in
    let after = c.drain.result in
    let is_after : to_z w64 (of_z w64 after) ≡ after = to_z-of_z w64 after (record { sfits = c.drain.type_inv }) in
    let run = rw (to_z-of_z w64 th c.ranges.threshold) at c.drain.ensures.run in
    record {
      count = run.count;
      counted = run.counted;
      back = λ k last z p.
          run_all (InRange w'.step) (g.C.ScoreCombiner.combined first) (g.met.C.BoundedBySum.within_sum first) g.C.ScoreCombiner.step
          g.C.ScoreCombiner.value c.args.span.low c.args.span.end ls (row_members ss hs c.requires.heads) w
          (made g.C.ScoreCombiner.step g.C.ScoreCombiner.value g.C.ScoreCombiner.cleared g.C.ScoreCombiner.combined g.met.C.ScoreCombiner.combines
          g.met.C.ScoreCombiner.clear_keeps c.requires.begins.state.start first (cells_clear w).state c.requires.begins.state.is
          (ap (λ (x : Cell _). x.state) (c.fill.ensures.alike.clear ∙ c.begin.ensures.same))) c.fill.ensures.holds
          start (omega (arith, c.requires.some)) covers th after c.args.callback.now c.drain.new.callback run.count run.run k last z (rw is_after at p);
    }

pub returns-clause-callable : goal.returns-clause-callable
returns-clause-callable g c =
    let w' = fnmut.words g.row.C g.row.F g.row.N g.F.FnMut in
    let hs = c.args.heads.now in
    let ss = c.args.scorers.now in
    let ls = row_lists ss hs in
    let w = c.fill.new.cells in
    let first = (cells_clear c.args.cells.now).state in
    let th = c.args.threshold in
    let start : cells_start w ≡ c.args.span.low = c.fill.ensures.alike.start ∙ c.begin.ensures.start in
    let covers : c.args.span.end ≤ c.args.span.low + length w.cells.items = omega (arith, start, c.fill.ensures.alike.end, c.begin.ensures.end, c.requires.some) in
    let after = c.drain.result in
    let is_after : to_z w64 (of_z w64 after) ≡ after = to_z-of_z w64 after (record { sfits = c.drain.type_inv }) in
    let run = rw (to_z-of_z w64 th c.ranges.threshold) at c.drain.ensures.run in
    rw is_after
    (may_all_after (InRange w'.step) (g.C.ScoreCombiner.combined first) (g.met.C.BoundedBySum.within_sum first) g.C.ScoreCombiner.step
    g.C.ScoreCombiner.value c.args.span.low c.args.span.end ls (row_members ss hs c.requires.heads) w
    (made g.C.ScoreCombiner.step g.C.ScoreCombiner.value g.C.ScoreCombiner.cleared g.C.ScoreCombiner.combined g.met.C.ScoreCombiner.combines
    g.met.C.ScoreCombiner.clear_keeps c.requires.begins.state.start first (cells_clear w).state c.requires.begins.state.is
    (ap (λ (x : Cell _). x.state) (c.fill.ensures.alike.clear ∙ c.begin.ensures.same))) c.fill.ensures.holds
    start (omega (arith, c.requires.some)) w'.pre covers th after c.args.callback.now c.drain.new.callback run.count run.run c.requires.callable)
