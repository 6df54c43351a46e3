use Rattle.std.proofs.Common.{◌≡◌, ◌∙◌, ℕ, ℤ, ◌<◌, ◌<ℤ◌, ◌≤ℤ◌, List, ap, arith, inl, inr, map, pos, refl, subst, sym, true, to_z, of_z, w64}
use Rattle.std.specs.List.Sorted.{IsPermutation}
use Rattle.std.proofs.lemmas.Int.{to_z-of_z}
use Rattle.qm_term.specs.HeadRow.{row_lists}
use Rattle.qm_term.specs.Heads.{shown}
use Rattle.qm_term.specs.Members.{AreMembers, Member, scores_of}
use Rattle.qm_term.specs.Pivot.{AreCut, CutOne, IsPivot, NoPivot, all_on, front_scores, past, pivot_bounds, postings, skip, to, total_top}
use Rattle.qm_term.specs.Runs.{InRange}
use Rattle.qm_term.specs.RunScorers.{wand_member}
use Rattle.qm_term.proofs.RowMoves.{row_below}
use Rattle.qm_term.proofs.RowRecords.{row_members}
use Rattle.qm_term.proofs.RowShown.{no_pivot_shown, pivot_shown, shown_tops, some_front}
use Rattle.qm_term.proofs.WandBounds.{low_before_pivot, skip_le_end, skip_past}
use Rattle.qm_term.proofs.WandOrder.{postings_permuted, total_permuted}
use Rattle.qm_term.proofs.WandPlain.{score_may}
use Rattle.qm_term.proofs.WandRows.{pivot_bounds_le}
use Rattle.qm_term.proofs.WandSteps.{AreCut-one, fewer_cut, fewer_scored, passes_cut, passes_skip, pivot_scores, scores_pivot, tops_cut, tops_past, tops_to}
use Rattle.qm_term.proofs.WandSteps.{AreCut-to}
use Rattle.qm_term.specs.contracts.wand.run.turn_row.F-FnMut as fnmut
use Rattle.qm_term.proofs.wand.run.turn_row.Goals as goal

pub find_pivot-p-requires-clause-fits : goal.find_pivot-p-requires-clause-fits
find_pivot-p-requires-clause-fits g c =
    omega (arith, shown_tops (map wand_member c.args.scorers.now) c.args.heads.now c.requires.row.heads.records.each, c.requires.fits)

pub find_pivot-p-requires-clause-below : goal.find_pivot-p-requires-clause-below
find_pivot-p-requires-clause-below g c = row_below c.args.scorers.now c.args.heads.now c.requires.row.heads

pub returns-then-p-ge-TERMINATED-clause-none : goal.returns-then-p-ge-TERMINATED-clause-none
returns-then-p-ge-TERMINATED-clause-none g c =
    let hs = c.args.heads.now in
    let ms = map wand_member c.args.scorers.now in
    let th = c.args.threshold in
    let is : to_z w64 (of_z w64 th) ≡ th = to_z-of_z w64 th c.ranges.threshold in
    let none = c.find_pivot-p.ensures.none (omega (arith, c.find_pivot-p.ensures.end, c.if-p-ge-TERMINATED.true)) in
    λ _. record {
      none = no_pivot_shown ms th hs c.requires.row.heads.records.each (subst (λ (t : ℤ). NoPivot t (map shown hs)) is none);
      lists = refl;
      threshold = is;
      callback = refl;
    }

pub is_above-requires : goal.is_above-requires
is_above-requires g c =
    let ls = row_lists c.args.scorers.now c.args.heads.now in
    omega (
      arith,
      c.bounds_at-bounds.ensures.bounds,
      pivot_bounds_le c.find_pivot-p.result ls (row_members c.args.scorers.now c.args.heads.now c.requires.row.heads),
      c.requires.fits,
    )

pub skip_one-requires-clause-some : goal.skip_one-requires-clause-some
skip_one-requires-clause-some g c =
    let ss = c.args.scorers.now in
    let hs = c.args.heads.now in
    let ms = map wand_member ss in
    let ls = row_lists ss hs in
    let p = c.find_pivot-p.result in
    let th = c.args.threshold in
    let is : to_z w64 (of_z w64 th) ≡ th = to_z-of_z w64 th c.ranges.threshold in
    let h : AreMembers ls = row_members ss hs c.requires.row.heads in
    let v : IsPivot th ls p = pivot_shown ms th p hs c.requires.row.heads.records.each
    (subst (λ (t : ℤ). IsPivot t (map shown hs) p) is (c.find_pivot-p.ensures.pivot (omega arith))) in
    some_front ms p c.front_len-n.result hs c.requires.row.heads.records.each v.is_head c.front_len-n.ensures.others

pub returns-then-not-is_above-clause-fits : goal.returns-then-not-is_above-clause-fits
returns-then-not-is_above-clause-fits g c =
    let p = c.find_pivot-p.result in
    let bs = row_lists c.bounds_at-bounds.new.scorers c.bounds_at-bounds.new.heads in
    let cut = c.skip_one.ensures.cut p c.bounds_at-bounds.ensures.front c.bounds_at-bounds.ensures.known in
    total_permuted (λ m. m.top) cut.0 (row_lists c.skip_one.new.scorers c.skip_one.new.heads) cut.2
    ∙ tops_cut (skip p bs) bs cut.0 (AreCut-one p (skip p bs) bs cut.0 cut.1) ∙ ap total_top c.bounds_at-bounds.ensures.lists

pub returns-then-not-is_above-clause-turn : goal.returns-then-not-is_above-clause-turn
returns-then-not-is_above-clause-turn g c =
    let ss = c.args.scorers.now in
    let hs = c.args.heads.now in
    let ms = map wand_member ss in
    let ls = row_lists ss hs in
    let p = c.find_pivot-p.result in
    let th = c.args.threshold in
    let is : to_z w64 (of_z w64 th) ≡ th = to_z-of_z w64 th c.ranges.threshold in
    let h : AreMembers ls = row_members ss hs c.requires.row.heads in
    let v : IsPivot th ls p = pivot_shown ms th p hs c.requires.row.heads.records.each
    (subst (λ (t : ℤ). IsPivot t (map shown hs) p) is (c.find_pivot-p.ensures.pivot (omega arith))) in
    let cut = c.skip_one.ensures.cut p c.bounds_at-bounds.ensures.front c.bounds_at-bounds.ensures.known in
    let low : pos (pivot_bounds p ls) ≤ℤ th =
    subst (λ (n : ℕ). pos n ≤ℤ th) c.bounds_at-bounds.ensures.bounds (rw is at (c.is_above.ensures.no c.if-not-is_above.true)) in
    let one : CutOne p (skip p ls) ls cut.0 = subst (λ (xs : List Member). CutOne p (skip p xs) xs cut.0) c.bounds_at-bounds.ensures.lists cut.1 in
    let fewer : postings cut.0 < postings ls = fewer_cut p (skip p ls) ls cut.0 (skip_past p ls v.below_end) (skip_le_end p ls) one in
    λ _. record {
      pivot = p;
      lists = cut.0;
      found = v;
      fewer = omega (arith, fewer, postings_permuted cut.0 (row_lists c.skip_one.new.scorers c.skip_one.new.heads) cut.2);
      order = cut.2;
      turn = inl (record { bounds = low; quiet = (is, refl, refl); lists = one; passes = passes_skip th p ls h v cut.0 low one });
    }

pub returns-then-not-align-clause-fits : goal.returns-then-not-align-clause-fits
returns-then-not-align-clause-fits g c =
    let p = c.find_pivot-p.result in
    let cut = c.align.ensures.cut c.if-not-align.true in
    total_permuted (λ m. m.top) cut.0 (row_lists c.align.new.scorers c.align.new.heads) cut.3
    ∙ tops_cut p (row_lists c.bounds_at-bounds.new.scorers c.bounds_at-bounds.new.heads) cut.0 cut.1 ∙ ap total_top c.bounds_at-bounds.ensures.lists

pub returns-then-not-align-clause-turn : goal.returns-then-not-align-clause-turn
returns-then-not-align-clause-turn g c =
    let ss = c.args.scorers.now in
    let hs = c.args.heads.now in
    let ms = map wand_member ss in
    let ls = row_lists ss hs in
    let p = c.find_pivot-p.result in
    let th = c.args.threshold in
    let is : to_z w64 (of_z w64 th) ≡ th = to_z-of_z w64 th c.ranges.threshold in
    let h : AreMembers ls = row_members ss hs c.requires.row.heads in
    let v : IsPivot th ls p = pivot_shown ms th p hs c.requires.row.heads.records.each
    (subst (λ (t : ℤ). IsPivot t (map shown hs) p) is (c.find_pivot-p.ensures.pivot (omega arith))) in
    let bs = c.bounds_at-bounds.new.scorers in
    let bh = c.bounds_at-bounds.new.heads in
    let same : row_lists bs bh ≡ ls = c.bounds_at-bounds.ensures.lists in
    let above : th <ℤ pos (pivot_bounds p ls) =
    subst (λ (n : ℕ). th <ℤ pos n) c.bounds_at-bounds.ensures.bounds (rw is at (c.is_above.ensures.yes c.if-not-is_above.false)) in
    let cut = c.align.ensures.cut c.if-not-align.true in
    let some : AreCut p ls cut.0 = subst (λ (xs : List Member). AreCut p xs cut.0) same cut.1 in
    let fewer : postings cut.0 < postings ls = subst (λ (xs : List Member). postings cut.0 < postings xs) same cut.2 in
    λ _. record {
      pivot = p;
      lists = cut.0;
      found = v;
      fewer = omega (arith, fewer, postings_permuted cut.0 (row_lists c.align.new.scorers c.align.new.heads) cut.3);
      order = cut.3;
      turn = inr (inl (record {
        bounds = above;
        quiet = (is, refl, refl);
        lists = some;
        passes = passes_cut th p ls cut.0 h some (λ d less held. low_before_pivot th p d ls h v less held);
      }));
    }

pub score_pivot-after-requires-clause-fits : goal.score_pivot-after-requires-clause-fits
score_pivot-after-requires-clause-fits g c =
    let ss = c.args.scorers.now in
    let hs = c.args.heads.now in
    let ls = row_lists ss hs in
    let p = c.find_pivot-p.result in
    let bs = c.bounds_at-bounds.new.scorers in
    let bh = c.bounds_at-bounds.new.heads in
    let same : row_lists bs bh ≡ ls = c.bounds_at-bounds.ensures.lists in
    let al = row_lists c.align.new.scorers c.align.new.heads in
    let lists : al ≡ map (to p) ls = c.align.ensures.lists c.if-not-align.false ∙ ap (map (to p)) same in
    tops_to p ls al lists c.requires.fits

pub score_pivot-after-requires-clause-callable : goal.score_pivot-after-requires-clause-callable
score_pivot-after-requires-clause-callable g c =
    let ss = c.args.scorers.now in
    let hs = c.args.heads.now in
    let ms = map wand_member ss in
    let ls = row_lists ss hs in
    let p = c.find_pivot-p.result in
    let th = c.args.threshold in
    let is : to_z w64 (of_z w64 th) ≡ th = to_z-of_z w64 th c.ranges.threshold in
    let h : AreMembers ls = row_members ss hs c.requires.row.heads in
    let v : IsPivot th ls p = pivot_shown ms th p hs c.requires.row.heads.records.each
    (subst (λ (t : ℤ). IsPivot t (map shown hs) p) is (c.find_pivot-p.ensures.pivot (omega arith))) in
    let bs = c.bounds_at-bounds.new.scorers in
    let bh = c.bounds_at-bounds.new.heads in
    let same : row_lists bs bh ≡ ls = c.bounds_at-bounds.ensures.lists in
    let above : th <ℤ pos (pivot_bounds p ls) =
    subst (λ (n : ℕ). th <ℤ pos n) c.bounds_at-bounds.ensures.bounds (rw is at (c.is_above.ensures.yes c.if-not-is_above.false)) in
    let al = row_lists c.align.new.scorers c.align.new.heads in
    let on_p : all_on p ls ≡ true = ap (all_on p) (sym same) ∙ c.align.ensures.on c.if-not-align.false in
    let lists : al ≡ map (to p) ls = c.align.ensures.lists c.if-not-align.false ∙ ap (map (to p)) same in
    let combined = g.C.ScoreCombiner.combined c.args.combiner in
    let sum : combined (scores_of p ls) ≡ combined (front_scores p al) = ap combined (pivot_scores th p ls h v on_p ∙ ap (front_scores p) (sym lists)) in
    let w = fnmut.words g.row.C g.row.F g.row.N g.F.FnMut in
    let may = score_may combined (g.met.C.BoundedBySum.within_sum c.args.combiner) (InRange w.step) th p ls
    (map (past p) (map (to p) ls)) h (scores_pivot th p ls h v on_p above) w.pre c.args.callback.now c.requires.callable in
    rw (is, sym sum) may.0

pub returns-clause-fits : goal.returns-clause-fits
returns-clause-fits g c =
    let ss = c.args.scorers.now in
    let hs = c.args.heads.now in
    let ls = row_lists ss hs in
    let p = c.find_pivot-p.result in
    let bs = c.bounds_at-bounds.new.scorers in
    let bh = c.bounds_at-bounds.new.heads in
    let same : row_lists bs bh ≡ ls = c.bounds_at-bounds.ensures.lists in
    let al = row_lists c.align.new.scorers c.align.new.heads in
    let lists : al ≡ map (to p) ls = c.align.ensures.lists c.if-not-align.false ∙ ap (map (to p)) same in
    total_permuted (λ m. m.top) (map (past p) al) (row_lists c.score_pivot-after.new.scorers c.score_pivot-after.new.heads) c.score_pivot-after.ensures.lists
    ∙ tops_past p al ∙ ap total_top lists ∙ tops_cut p ls (map (to p) ls) (AreCut-to p ls)

pub returns-clause-turn : goal.returns-clause-turn
returns-clause-turn g c =
    let ss = c.args.scorers.now in
    let hs = c.args.heads.now in
    let ms = map wand_member ss in
    let ls = row_lists ss hs in
    let p = c.find_pivot-p.result in
    let th = c.args.threshold in
    let is : to_z w64 (of_z w64 th) ≡ th = to_z-of_z w64 th c.ranges.threshold in
    let h : AreMembers ls = row_members ss hs c.requires.row.heads in
    let v : IsPivot th ls p = pivot_shown ms th p hs c.requires.row.heads.records.each
    (subst (λ (t : ℤ). IsPivot t (map shown hs) p) is (c.find_pivot-p.ensures.pivot (omega arith))) in
    let bs = c.bounds_at-bounds.new.scorers in
    let bh = c.bounds_at-bounds.new.heads in
    let same : row_lists bs bh ≡ ls = c.bounds_at-bounds.ensures.lists in
    let above : th <ℤ pos (pivot_bounds p ls) =
    subst (λ (n : ℕ). th <ℤ pos n) c.bounds_at-bounds.ensures.bounds (rw is at (c.is_above.ensures.yes c.if-not-is_above.false)) in
    let al = row_lists c.align.new.scorers c.align.new.heads in
    let on_p : all_on p ls ≡ true = ap (all_on p) (sym same) ∙ c.align.ensures.on c.if-not-align.false in
    let lists : al ≡ map (to p) ls = c.align.ensures.lists c.if-not-align.false ∙ ap (map (to p)) same in
    let combined = g.C.ScoreCombiner.combined c.args.combiner in
    let sum : combined (scores_of p ls) ≡ combined (front_scores p al) = ap combined (pivot_scores th p ls h v on_p ∙ ap (front_scores p) (sym lists)) in
    let ns = map (past p) (map (to p) ls) in
    let last = row_lists c.score_pivot-after.new.scorers c.score_pivot-after.new.heads in
    let after = c.score_pivot-after.result in
    let is_after : to_z w64 (of_z w64 after) ≡ after = to_z-of_z w64 after (record { sfits = c.score_pivot-after.type_inv }) in
    let moved : IsPermutation ns last = subst (λ (xs : List Member). IsPermutation (map (past p) xs) last) lists c.score_pivot-after.ensures.lists in
    λ _. record {
      pivot = p;
      lists = ns;
      found = v;
      fewer = omega (arith, fewer_scored th p ls h v on_p, postings_permuted ns last moved);
      order = moved;
      turn = inr (inr (record {
        bounds = above;
        lists = refl;
        all_are_on = on_p;
        tick = refl;
        turn = rw (is_after, sum) (rw is at c.score_pivot-after.ensures.turn);
        scores = scores_pivot th p ls h v on_p above;
      }));
    }

-- ---- the first stands alone
