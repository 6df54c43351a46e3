-- Block by block the list is taken in.
use Rattle.std.proofs.Common.{◌≡◌, ◌∙◌, ℕ, ◌<◌, ◌≤◌, List, ap, arith, get_or, length, map, set, subst, sym}
use Rattle.std.proofs.lemmas.List.{get_or-set_same, length-map}
use Rattle.qm_combine.specs.Combiner.{HasRoomFor}
use Rattle.qm_term.specs.Cells.{TakesIn}
use Rattle.qm_term.specs.HeadRow.{row_lists}
use Rattle.qm_term.specs.Heads.{listed, no_member}
use Rattle.qm_term.specs.Members.{IsMember, Member}
use Rattle.qm_term.specs.Pivot.{cut, head}
use Rattle.qm_term.specs.RunScorers.{wand_member}
use Rattle.qm_term.specs.Stretches.{HasCellsFor}
use Rattle.qm_term.specs.declared.wand.cells.Cell.{Cell}
use Rattle.qm_term.proofs.RowMoves.{cut_head, row_member}
use Rattle.qm_term.proofs.RowStretch.{set_set}
use Rattle.qm_term.proofs.StretchCells.{takes_none, takes_on}
use Rattle.qm_term.proofs.StretchCuts.{cut_all, cut_cut}
use Rattle.qm_term.proofs.WandBounds.{IsMember-cut}
use Rattle.qm_term.proofs.wand.stretches.take_list.Goals as goal
use Rattle.qm_docset.proofs.Gathering.{head_document-from}

pub stand_from-doc-requires-clause-below : goal.stand_from-doc-requires-clause-below
stand_from-doc-requires-clause-below g c = omega (arith, c.requires.some, c.requires.below)

pub loop-doc-init : goal.loop-doc-init
loop-doc-init g c =
    let ss = c.args.scorers.now in
    let hs = c.args.heads.now in
    let k = c.args.k in
    let ls = row_lists ss hs in
    let m = get_or ls k no_member in
    let is : IsMember m = row_member ss hs k c.requires.heads c.requires.within in
    let l : k < length ls = omega (arith, c.requires.within, length-map hs (listed (map wand_member ss))) in
    record {
      heads = c.stand_from-doc.ensures.heads;
      here = c.stand_from-doc.ensures.answer ∙ ap head (sym (ap (λ (xs : List Member). get_or xs k no_member) c.stand_from-doc.ensures.lists
          ∙ get_or-set_same ls k (cut c.args.low m) no_member l));
      part = (
        c.args.low,
        c.requires.some,
        omega arith,
        c.stand_from-doc.ensures.lists,
        takes_none g.C.ScoreCombiner.step c.args.low (cut c.args.low m) c.args.cells.now (IsMember-cut c.args.low m is)
            (head_document-from c.args.low m.entries (omega (arith, c.requires.some, c.requires.below))),
      );
    }

pub take_block-doc-requires-clause-here : goal.take_block-doc-requires-clause-here
take_block-doc-requires-clause-here g c = omega (arith, c.loop-doc.invariant.here, c.loop-doc-test.true)

pub take_block-doc-requires-clause-start : goal.take_block-doc-requires-clause-start
take_block-doc-requires-clause-start g c =
    let ss = c.args.scorers.now in
    let hs = c.args.heads.now in
    let k = c.args.k in
    let ls = row_lists ss hs in
    let m = get_or ls k no_member in
    let part = c.loop-doc.invariant.part in
    let is : IsMember m = row_member ss hs k c.requires.heads c.requires.within in
    let l : k < length ls = omega (arith, c.requires.within, length-map hs (listed (map wand_member ss))) in
    let at : get_or (row_lists c.loop-doc.scorers c.loop-doc.heads) k no_member ≡ cut part.0 m =
    ap (λ (xs : List Member). get_or xs k no_member) part.3 ∙ get_or-set_same ls k (cut part.0 m) no_member l in
    omega (arith, part.4.alike.start, c.requires.start, part.2, head_document-from part.0 m.entries (omega (arith, part.1, c.requires.below)), ap head at)

pub take_block-doc-requires-clause-cells : goal.take_block-doc-requires-clause-cells
take_block-doc-requires-clause-cells g c =
    let ss = c.args.scorers.now in
    let hs = c.args.heads.now in
    let k = c.args.k in
    let ls = row_lists ss hs in
    let m = get_or ls k no_member in
    let part = c.loop-doc.invariant.part in
    let step = g.C.ScoreCombiner.step in
    let cleared = g.C.ScoreCombiner.cleared in
    let is : IsMember m = row_member ss hs k c.requires.heads c.requires.within in
    let l : k < length ls = omega (arith, c.requires.within, length-map hs (listed (map wand_member ss))) in
    let at : get_or (row_lists c.loop-doc.scorers c.loop-doc.heads) k no_member ≡ cut part.0 m =
    ap (λ (xs : List Member). get_or xs k no_member) part.3 ∙ get_or-set_same ls k (cut part.0 m) no_member l in
    let from : part.0 ≤ head (cut part.0 m) = head_document-from part.0 m.entries (omega (arith, part.1, c.requires.below)) in
    let on : head m ≤ head (cut part.0 m) = cut_head part.0 m is in
    subst (λ (x : Member). HasCellsFor step cleared c.args.end x c.loop-doc.cells) (sym at) (record {
      covered = omega (arith, part.4.alike.end, c.requires.cells.covered);
      room = λ d after to.
          let same = (part.4.beyond d (omega (arith, after, from))).1 in
          subst (λ (x : Cell _). HasRoomFor step cleared m.top x.state) (sym same) (c.requires.cells.room d (omega (arith, after, on)) to);
      fits = λ d after to.
          let same = (part.4.beyond d (omega (arith, after, from))).1 in
          omega (arith, ap (λ (x : Cell _). x.bound) same, c.requires.cells.fits d (omega (arith, after, on)) to);
    })

pub loop-doc-preserved : goal.loop-doc-preserved
loop-doc-preserved g c =
    let ss = c.args.scorers.now in
    let hs = c.args.heads.now in
    let k = c.args.k in
    let ls = row_lists ss hs in
    let m = get_or ls k no_member in
    let low : ℕ = c.args.low in
    let part = c.loop-doc.invariant.part in
    let s = part.0 in
    let step = g.C.ScoreCombiner.step in
    let is : IsMember m = row_member ss hs k c.requires.heads c.requires.within in
    let l : k < length ls = omega (arith, c.requires.within, length-map hs (listed (map wand_member ss))) in
    let was = row_lists c.loop-doc.scorers c.loop-doc.heads in
    let at : get_or was k no_member ≡ cut s m = ap (λ (xs : List Member). get_or xs k no_member) part.3 ∙ get_or-set_same ls k (cut s m) no_member l in
    let from : s ≤ head (cut s m) = head_document-from s m.entries (omega (arith, part.1, c.requires.below)) in
    let block = c.take_block-doc.ensures.block in
    let t = block.stop in
    let more : s ≤ t = omega (arith, from, ap head at, block.past) in
    let again : cut s (cut low m) ≡ cut s m = cut_cut low s m part.2 in
    let cells : TakesIn step t (cut s (cut low m)) c.loop-doc.cells c.take_block-doc.new.cells =
    subst (λ (x : Member). TakesIn step t x c.loop-doc.cells c.take_block-doc.new.cells) (at ∙ sym again) block.cells in
    record {
      heads = c.take_block-doc.ensures.heads;
      here = c.take_block-doc.ensures.answer;
      part = (
        t,
        block.within,
        omega (arith, part.2, more),
        block.lists ∙ ap (λ (x : Member). set was k (cut t x)) at ∙ ap (λ (xs : List Member). set xs k (cut t (cut s m))) part.3
            ∙ set_set ls k (cut s m) (cut t (cut s m)) ∙ ap (set ls k) (cut_cut s t m more),
        takes_on step s t (cut low m) c.args.cells.now c.loop-doc.cells c.take_block-doc.new.cells (IsMember-cut low m is) more part.4 cells,
      );
    }

pub loop-doc-smaller : goal.loop-doc-smaller
loop-doc-smaller g c =
    let k = c.args.k in
    let ss = c.loop-doc.scorers in
    let hs = c.loop-doc.heads in
    let was = row_lists ss hs in
    let m = get_or was k no_member in
    let block = c.take_block-doc.ensures.block in
    let t = block.stop in
    let inside : k < length hs = omega (arith, c.requires.within, c.loop-doc.auto.heads) in
    let l : k < length was = omega (arith, inside, length-map hs (listed (map wand_member ss))) in
    let at : get_or (row_lists c.take_block-doc.new.scorers c.take_block-doc.new.heads) k no_member ≡ cut t m =
    ap (λ (xs : List Member). get_or xs k no_member) block.lists ∙ get_or-set_same was k (cut t m) no_member l in
    omega (
      arith,
      block.past,
      c.loop-doc.invariant.here,
      c.take_block-doc.ensures.answer,
      ap head at,
      head_document-from t m.entries (omega (arith, block.within, c.requires.below)),
      c.loop-doc-test.true,
    )

pub returns-clause-lists : goal.returns-clause-lists
returns-clause-lists g c =
    let ss = c.args.scorers.now in
    let hs = c.args.heads.now in
    let k = c.args.k in
    let ls = row_lists ss hs in
    let m = get_or ls k no_member in
    let part = c.loop-doc.invariant.part in
    let is : IsMember m = row_member ss hs k c.requires.heads c.requires.within in
    let l : k < length ls = omega (arith, c.requires.within, length-map hs (listed (map wand_member ss))) in
    let at = ap (λ (xs : List Member). get_or xs k no_member) part.3 ∙ get_or-set_same ls k (cut part.0 m) no_member l in
    let past : c.args.end ≤ head (cut part.0 m) = omega (arith, c.loop-doc-test.false, c.loop-doc.invariant.here, ap head at) in
    part.3 ∙ ap (set ls k) (sym (cut_all c.args.end (cut part.0 m) (IsMember-cut part.0 m is) past) ∙ cut_cut part.0 c.args.end m part.1)

pub returns-clause-cells : goal.returns-clause-cells
returns-clause-cells g c =
    let ss = c.args.scorers.now in
    let hs = c.args.heads.now in
    let k = c.args.k in
    let ls = row_lists ss hs in
    let m = get_or ls k no_member in
    let low : ℕ = c.args.low in
    let part = c.loop-doc.invariant.part in
    let step = g.C.ScoreCombiner.step in
    let is : IsMember m = row_member ss hs k c.requires.heads c.requires.within in
    let l : k < length ls = omega (arith, c.requires.within, length-map hs (listed (map wand_member ss))) in
    let at = ap (λ (xs : List Member). get_or xs k no_member) part.3 ∙ get_or-set_same ls k (cut part.0 m) no_member l in
    let again : cut part.0 (cut low m) ≡ cut part.0 m = cut_cut low part.0 m part.2 in
    let past : c.args.end ≤ head (cut part.0 (cut low m)) = omega (arith, c.loop-doc-test.false, c.loop-doc.invariant.here, ap head at, ap head again) in
    takes_on step part.0 c.args.end (cut low m) c.args.cells.now c.loop-doc.cells c.loop-doc.cells (IsMember-cut low m is) part.1 part.4
    (takes_none step c.args.end (cut part.0 (cut low m)) c.loop-doc.cells (IsMember-cut part.0 (cut low m) (IsMember-cut low m is)) past)
