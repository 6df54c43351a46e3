-- The row is gone over by stretches.
use Rattle.std.proofs.Common.{◌≡◌, ◌∙◌, ◌≤◌, ℕ, List, ap, arith, map, refl, subst, sym, w64}
use Rattle.std.proofs.lemmas.Int.{to_z-of_z}
use Rattle.qm_docset.specs.Entry.{greatest_score}
use Rattle.qm_term.specs.Cells.{cells_clear}
use Rattle.qm_term.specs.HeadRow.{AreHeads, row_lists}
use Rattle.qm_term.specs.Members.{Member, united}
use Rattle.qm_term.specs.Pivot.{bound_of, total_top}
use Rattle.qm_term.specs.Runs.{InRange}
use Rattle.qm_term.specs.RunScorers.{wand_member}
use Rattle.qm_term.specs.TermBlocks.{member_of}
use Rattle.qm_term.specs.declared.norms.Norms.{Ghosts as NormGhosts}
use Rattle.qm_term.specs.declared.term_scorer.TermScorer.{TermScorer}
use Rattle.qm_term.specs.declared.wand.cells.Cell.{Cell}
use Rattle.qm_term.specs.declared.wand.front.TermScorerWithMaxScore.{TermScorerWithMaxScore}
use Rattle.qm_term.specs.declared.wand.heads.Head.{Head}
use Rattle.qm_term.proofs.PrunedRuns.{MayPrune-terms, PrunesTerms-pruned}
use Rattle.qm_term.proofs.StretchCounts.{count_le, left_all, length-united}
use Rattle.qm_term.specs.contracts.wand.run.block_wand.F-FnMut as fnmut
use Rattle.qm_term.proofs.wand.run.block_wand.Goals as goal

-- what the clear cell combines is what the combiner does
keeps : {C : Type 0} (cleared : C → C) (combined : C → List ℕ → ℕ) → ((c : C) → combined (cleared c) ≡ combined c) → (own now : C) → now ≡ cleared own → combined now ≡ combined own
keeps cleared combined law own now is = ap combined is ∙ law own

-- the lists of the row are those of the scorers
listed_row : {N : Type 0} {G : NormGhosts N} (ss made now : List (TermScorerWithMaxScore N G)) (hs records : List Head) (ms : List Member) → made ≡ ss → now ≡ ss → records ≡ hs →
    row_lists made hs ≡ map wand_member made → map wand_member ss ≡ ms → row_lists now records ≡ ms
listed_row ss made now hs records ms is is_now is_records lists members =
    ap (λ (xs : List (TermScorerWithMaxScore _ _)). row_lists xs records) is_now ∙ ap (row_lists ss) is_records
    ∙ sym (ap (λ (xs : List (TermScorerWithMaxScore _ _)). row_lists xs hs) is) ∙ lists ∙ ap (map wand_member) is ∙ members

pub run_stretches-requires-clause-heads : goal.run_stretches-requires-clause-heads
run_stretches-requires-clause-heads g c =
    subst (λ (xs : List (TermScorerWithMaxScore _ _)). AreHeads xs c.deref_mut.result.now) (sym c.deref_mut-2.ensures.value)
    (subst (λ (ys : List Head). AreHeads c.in_ok-row.row.items ys) (sym c.deref_mut.ensures.value)
    (subst (λ (xs : List (TermScorerWithMaxScore _ _)). AreHeads xs c.in_ok-heads.heads.items) c.deref-2.ensures.value c.in_ok-heads.ensures.heads))

pub run_stretches-requires-clause-fits : goal.run_stretches-requires-clause-fits
run_stretches-requires-clause-fits g c =
    let ms = map member_of c.args.scorers.items in
    let listed = listed_row c.in_ok-row.row.items c.deref-2.result.now c.deref_mut-2.result.now c.in_ok-heads.heads.items c.deref_mut.result.now ms
    c.deref-2.ensures.value c.deref_mut-2.ensures.value c.deref_mut.ensures.value c.in_ok-heads.ensures.lists c.in_ok-row.ensures.members in
    let fits : total_top ms ≤ greatest_score =
    subst (λ (xs : List (TermScorer _ _)). total_top (map member_of xs) ≤ greatest_score) c.deref.ensures.value (c.tops_fit.ensures.fits c.if-not-tops_fit.false) in
    omega (arith, ap total_top listed, fits)

pub run_stretches-requires-clause-begins : goal.run_stretches-requires-clause-begins
run_stretches-requires-clause-begins g c =
    rw c.in_ok-cells.ensures.state (record { bound = refl; state = record { start = c.args.combiner; is = refl } })

pub run_stretches-requires-clause-callable : goal.run_stretches-requires-clause-callable
run_stretches-requires-clause-callable g c =
    let w = fnmut.words g.row.C g.row.F g.row.N g.F.FnMut in
    let combiner = c.args.combiner in
    let combined = g.C.ScoreCombiner.combined combiner in
    let own = keeps g.C.ScoreCombiner.cleared g.C.ScoreCombiner.combined g.met.C.ScoreCombiner.clear_keeps combiner
    (cells_clear c.in_ok-cells.cells).state (ap (λ (x : Cell _). x.state) c.in_ok-cells.ensures.state) in
    let listed = listed_row c.in_ok-row.row.items c.deref-2.result.now c.deref_mut-2.result.now c.in_ok-heads.heads.items c.deref_mut.result.now
    (map member_of c.args.scorers.items) c.deref-2.ensures.value c.deref_mut-2.ensures.value c.deref_mut.ensures.value
    c.in_ok-heads.ensures.lists c.in_ok-row.ensures.members in
    let may = MayPrune-terms (InRange w.step) combined c.args.scorers.items w.pre
    c.args.threshold c.args.callback.now c.requires.callable in
    rw (to_z-of_z w64 c.args.threshold c.ranges.threshold, own, listed) may

pub returns-clause-run : goal.returns-clause-run
returns-clause-run g c =
    let call = InRange (fnmut.words g.row.C g.row.F g.row.N g.F.FnMut).step in
    let combiner = c.args.combiner in
    let own = keeps g.C.ScoreCombiner.cleared g.C.ScoreCombiner.combined g.met.C.ScoreCombiner.clear_keeps combiner
    (cells_clear c.in_ok-cells.cells).state (ap (λ (x : Cell _). x.state) c.in_ok-cells.ensures.state) in
    let listed = listed_row c.in_ok-row.row.items c.deref-2.result.now c.deref_mut-2.result.now c.in_ok-heads.heads.items c.deref_mut.result.now
    (map member_of c.args.scorers.items) c.deref-2.ensures.value c.deref_mut-2.ensures.value c.deref_mut.ensures.value
    c.in_ok-heads.ensures.lists c.in_ok-row.ensures.members in
    let p = rw (to_z-of_z w64 c.args.threshold c.ranges.threshold, own, listed, sym c.get-ticks.ensures) at c.run_stretches.ensures.run in
    PrunesTerms-pruned call (g.C.ScoreCombiner.combined combiner) c.args.scorers.items
    c.args.threshold p.last c.args.callback.now c.run_stretches.new.callback c.get-ticks.result p.run

pub returns-clause-turns : goal.returns-clause-turns
returns-clause-turns g c =
    let combiner = c.args.combiner in
    let combined = g.C.ScoreCombiner.combined combiner in
    let ms = map member_of c.args.scorers.items in
    let own = keeps g.C.ScoreCombiner.cleared g.C.ScoreCombiner.combined g.met.C.ScoreCombiner.clear_keeps combiner
    (cells_clear c.in_ok-cells.cells).state (ap (λ (x : Cell _). x.state) c.in_ok-cells.ensures.state) in
    let listed = listed_row c.in_ok-row.row.items c.deref-2.result.now c.deref_mut-2.result.now c.in_ok-heads.heads.items c.deref_mut.result.now
    ms c.deref-2.ensures.value c.deref_mut-2.ensures.value c.deref_mut.ensures.value c.in_ok-heads.ensures.lists c.in_ok-row.ensures.members in
    let p = rw (own, listed) at c.run_stretches.ensures.run in
    omega (arith, c.get-ticks.ensures, p.run.3, count_le (bound_of ms) p.run.0 (united combined ms), length-united combined ms, left_all ms)
