-- List by list the cells are filled, from the last on.
use Rattle.std.proofs.Common.{◌≡◌, ◌∙◌, ℕ, ◌+◌, ◌-◌, ◌<◌, ◌≤◌, List, ap, arith, drop, fold, get_or, length, map, refl, set, subst, sum, sym}
use Rattle.std.proofs.lemmas.List.{length-map}
use Rattle.qm_docset.specs.Entry.{greatest_score}
use Rattle.qm_term.specs.Cells.{HoldLists, TakesIn, cuts}
use Rattle.qm_term.specs.HeadRow.{row_lists}
use Rattle.qm_term.specs.Heads.{listed, no_member}
use Rattle.qm_term.specs.Members.{AreMembers, Member, scores_of}
use Rattle.qm_term.specs.Pivot.{cut, total_top}
use Rattle.qm_term.specs.RunScorers.{wand_member}
use Rattle.qm_term.specs.Stretches.{HasCellsFor}
use Rattle.qm_term.specs.declared.wand.cells.Cell.{Cell}
use Rattle.qm_term.proofs.RowAligns.{mapped_from, mapped_from-before, mapped_from-start, mapped_from-step}
use Rattle.qm_term.proofs.RowRecords.{row_members}
use Rattle.qm_term.proofs.RowStretch.{members_from, tops_from}
use Rattle.qm_term.proofs.StretchCells.{holds_more, holds_none}
use Rattle.qm_term.proofs.StretchCuts.{AreCut-cuts, cuts_members}
use Rattle.qm_term.proofs.WandRows.{rest_at, rest_end}
use Rattle.qm_term.proofs.WandSteps.{tops_cut}
use Rattle.qm_term.proofs.wand.stretches.fill.Goals as goal
use Rattle.qm_term.proofs.WandBounds.{blockbound_le_top, scores_le_blockbound}

pub loop-k-init : goal.loop-k-init
loop-k-init g c =
    let hs = c.args.heads.now in
    let ls = row_lists c.args.scorers.now hs in
    let step = g.C.ScoreCombiner.step in
    let all : length ls ≤ length hs = omega (arith, length-map hs (listed (map wand_member c.args.scorers.now))) in
    record {
      heads = c.requires.heads;
      within = omega arith;
      lists = sym (mapped_from-start (cut c.args.end) (length hs) ls (λ j from l. absurd (omega (arith, all, from, l))));
      holds = subst (λ (xs : List Member). HoldLists step c.args.end xs c.args.cells.now) (sym (rest_end (cut c.args.low) ls (length hs) all))
          (holds_none step g.met.C.ScoreCombiner.commutes c.args.end c.args.cells.now c.requires.clear c.requires.begins.bound);
      alike = record { start = refl; end = refl; clear = refl };
    }

pub take_list-requires-clause-within : goal.take_list-requires-clause-within
take_list-requires-clause-within g c = omega (arith, c.loop-k-test.true, c.loop-k.invariant.within, c.loop-k.auto.heads)

pub take_list-requires-clause-start : goal.take_list-requires-clause-start
take_list-requires-clause-start g c = omega (arith, c.loop-k.invariant.alike.start, c.requires.start)

pub take_list-requires-clause-cells : goal.take_list-requires-clause-cells
take_list-requires-clause-cells g c =
    let ss = c.args.scorers.now in
    let hs = c.args.heads.now in
    let ls = row_lists ss hs in
    let inv = c.loop-k.invariant in
    let k = c.loop-k.k - 1 in
    let low : ℕ = c.args.low in
    let step = g.C.ScoreCombiner.step in
    let cleared = g.C.ScoreCombiner.cleared in
    let m = get_or ls k no_member in
    let l : k < length ls = omega (arith, c.loop-k-test.true, inv.within, length-map hs (listed (map wand_member ss))) in
    let one : c.loop-k.k ≡ k + 1 = omega (arith, c.loop-k-test.true) in
    let rest = cuts low (drop (k + 1) ls) in
    let are : AreMembers rest = cuts_members low (drop (k + 1) ls) (members_from (k + 1) ls (row_members ss hs c.requires.heads)) in
    let holds : HoldLists step c.args.end rest c.loop-k.cells =
    subst (λ (n : ℕ). HoldLists step c.args.end (cuts low (drop n ls)) c.loop-k.cells) one inv.holds in
    let at : get_or (row_lists c.loop-k.scorers c.loop-k.heads) k no_member ≡ m =
    ap (λ (xs : List Member). get_or xs k no_member) inv.lists ∙ mapped_from-before (cut c.args.end) c.loop-k.k ls k no_member (omega (arith, one)) in
    let tops : m.top + total_top rest ≤ greatest_score =
    omega (arith, tops_from ls k no_member l, tops_cut low (drop (k + 1) ls) rest (AreCut-cuts low (drop (k + 1) ls)), c.requires.fits) in
    subst (λ (x : Member). HasCellsFor step cleared c.args.end x c.loop-k.cells) (sym at) (record {
      covered = omega (arith, inv.alike.end, c.requires.end);
      room = λ d after to.
          let bounded : sum (scores_of d rest) ≤ total_top rest =
          omega (arith, scores_le_blockbound d rest are, blockbound_le_top d rest are) in
          record {
            start = c.requires.begins.state.start;
            scores = scores_of d rest;
            state = holds.state d to ∙ ap (λ (x : Cell _). fold step x.state (scores_of d rest)) inv.alike.clear
                ∙ ap (λ s. fold step s (scores_of d rest)) c.requires.begins.state.is;
            fits = omega (arith, bounded, tops);
          };
      fits = λ d after to. omega (arith, holds.bound d to, blockbound_le_top d rest are, tops);
    })

pub loop-k-preserved : goal.loop-k-preserved
loop-k-preserved g c =
    let ss = c.args.scorers.now in
    let hs = c.args.heads.now in
    let ls = row_lists ss hs in
    let inv = c.loop-k.invariant in
    let k = c.loop-k.k - 1 in
    let low : ℕ = c.args.low in
    let end : ℕ = c.args.end in
    let step = g.C.ScoreCombiner.step in
    let m = get_or ls k no_member in
    let l : k < length ls = omega (arith, c.loop-k-test.true, inv.within, length-map hs (listed (map wand_member ss))) in
    let one : c.loop-k.k ≡ k + 1 = omega (arith, c.loop-k-test.true) in
    let rest = cuts low (drop (k + 1) ls) in
    let holds : HoldLists step end rest c.loop-k.cells = subst (λ (n : ℕ). HoldLists step end (cuts low (drop n ls)) c.loop-k.cells) one inv.holds in
    let at : get_or (row_lists c.loop-k.scorers c.loop-k.heads) k no_member ≡ m =
    ap (λ (xs : List Member). get_or xs k no_member) inv.lists ∙ mapped_from-before (cut end) c.loop-k.k ls k no_member (omega (arith, one)) in
    let takes = subst (λ (x : Member). TakesIn step end (cut low x) c.loop-k.cells c.take_list.new.cells) at c.take_list.ensures.cells in
    record {
      heads = c.take_list.ensures.heads;
      within = omega (arith, inv.within);
      lists =
          c.take_list.ensures.lists
          ∙ ap (λ (xs : List Member). set xs k (cut end (get_or xs k no_member))) inv.lists
          ∙ ap (λ (x : Member). set (mapped_from (cut end) c.loop-k.k ls) k (cut end x))
          (mapped_from-before (cut end) c.loop-k.k ls k no_member (omega (arith, one)))
          ∙ mapped_from-step (cut end) c.loop-k.k k ls no_member one l;
      holds = subst (λ (xs : List Member). HoldLists step end xs c.take_list.new.cells) (sym (rest_at (cut low) ls k no_member l))
          (holds_more step g.met.C.ScoreCombiner.commutes end (cut low m) rest c.loop-k.cells c.take_list.new.cells holds takes);
      alike = record {
        start = takes.alike.start ∙ inv.alike.start;
        end = takes.alike.end ∙ inv.alike.end;
        clear = takes.alike.clear ∙ inv.alike.clear;
      };
    }

pub returns-clause-lists : goal.returns-clause-lists
returns-clause-lists g c =
    let ls = row_lists c.args.scorers.now c.args.heads.now in
    let none : c.loop-k.k ≡ 0 = omega (arith, c.loop-k-test.false) in
    c.loop-k.invariant.lists ∙ ap (λ (n : ℕ). mapped_from (cut c.args.end) n ls) none

pub returns-clause-holds : goal.returns-clause-holds
returns-clause-holds g c =
    let ls = row_lists c.args.scorers.now c.args.heads.now in
    let none : c.loop-k.k ≡ 0 = omega (arith, c.loop-k-test.false) in
    subst (λ (n : ℕ). HoldLists g.C.ScoreCombiner.step c.args.end (cuts c.args.low (drop n ls)) c.loop-k.cells) none c.loop-k.invariant.holds
