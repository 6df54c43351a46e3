-- The scorer's list alone is taken in, and its record says so; no other names it.
use Rattle.std.proofs.Common.{◌≡◌, ◌∙◌, ◌<◌, ◌≤◌, List, length, get_or, map, set, ap, arith, refl, subst, sym}
use Rattle.std.proofs.lemmas.List.{get_or-map, get_or-set_same, length-map, length-set, map-set}
use Rattle.std.proofs.lemmas.List.Elements.{All-set}
use Rattle.qm_term.specs.Cells.{TakesIn, cells_start}
use Rattle.qm_term.specs.HeadRow.{row_lists}
use Rattle.qm_term.specs.Heads.{AreRecords, listed, lists, no_member}
use Rattle.qm_term.specs.Members.{Member}
use Rattle.qm_term.specs.Pivot.{cut, head}
use Rattle.qm_term.specs.RunScorers.{IsRunScorer, wand_member}
use Rattle.qm_term.specs.Stretches.{HasCellsFor, IsBoundedTo}
use Rattle.qm_term.specs.declared.wand.heads.Head.{Head}
use Rattle.qm_term.proofs.HeadRecords.{moved_records}
use Rattle.qm_term.proofs.HeadRows.{lists-set}
use Rattle.qm_term.proofs.RowRecords.{zeros}
use Rattle.qm_term.proofs.wand.stretches.take_part.Goals as goal

pub take_below-doc-requires-clause-start : goal.take_below-doc-requires-clause-start
take_below-doc-requires-clause-start g c =
    let ss = c.args.scorers.now in
    let hs = c.args.heads.now in
    let h = get_or hs c.args.k zeros in
    let ms = map wand_member ss in
    let inside : h.scorer < length ss = omega (arith, (c.requires.heads.records.each c.args.k zeros c.requires.within).inside, length-map ss wand_member) in
    let own = get_or-map (listed ms) hs c.args.k zeros no_member c.requires.within ∙ get_or-map wand_member ss h.scorer _ no_member inside in
    subst (λ (m : Member). cells_start c.args.cells.now ≤ head m) own c.requires.start

pub take_below-doc-requires-clause-block : goal.take_below-doc-requires-clause-block
take_below-doc-requires-clause-block g c =
    let ss = c.args.scorers.now in
    let hs = c.args.heads.now in
    let h = get_or hs c.args.k zeros in
    let ms = map wand_member ss in
    let inside : h.scorer < length ss = omega (arith, (c.requires.heads.records.each c.args.k zeros c.requires.within).inside, length-map ss wand_member) in
    let own = get_or-map (listed ms) hs c.args.k zeros no_member c.requires.within ∙ get_or-map wand_member ss h.scorer _ no_member inside in
    subst (IsBoundedTo c.args.end c.args.bound) own c.requires.block

pub take_below-doc-requires-clause-cells : goal.take_below-doc-requires-clause-cells
take_below-doc-requires-clause-cells g c =
    let ss = c.args.scorers.now in
    let hs = c.args.heads.now in
    let h = get_or hs c.args.k zeros in
    let ms = map wand_member ss in
    let inside : h.scorer < length ss = omega (arith, (c.requires.heads.records.each c.args.k zeros c.requires.within).inside, length-map ss wand_member) in
    let own = get_or-map (listed ms) hs c.args.k zeros no_member c.requires.within ∙ get_or-map wand_member ss h.scorer _ no_member inside in
    subst (λ (m : Member). HasCellsFor g.C.ScoreCombiner.step g.C.ScoreCombiner.cleared c.args.end m c.args.cells.now) own c.requires.cells

pub returns-clause-heads : goal.returns-clause-heads
returns-clause-heads g c =
    let ss = c.args.scorers.now in
    let hs = c.args.heads.now in
    let k = c.args.k in
    let h = get_or hs k zeros in
    let ms = map wand_member ss in
    let v = c.take_below-doc.new.self in
    let records = c.requires.heads.records in
    let inside : h.scorer < length ss = omega (arith, (records.each k zeros c.requires.within).inside, length-map ss wand_member) in
    let is : wand_member v ≡ cut c.args.end (listed ms h) =
    c.take_below-doc.ensures.member ∙ ap (cut c.args.end) (sym (get_or-map wand_member ss h.scorer _ no_member inside)) in
    let moved : Head = record {
      doc = c.take_below-doc.result;
      block_first = h.block_first;
      block_end = h.block_end;
      block_bound = h.block_bound;
      max_score = h.max_score;
      scorer = h.scorer;
    } in
    record {
      valid = All-set IsRunScorer ss h.scorer v c.take_below-doc.ensures.valid c.requires.heads.valid;
      records = subst (λ (ns : List Member). AreRecords ns (set hs k moved)) (sym (map-set wand_member ss h.scorer v))
          (moved_records ms hs k c.take_below-doc.result zeros records c.requires.within (wand_member v)
          (ap (λ (m : Member). m.blocks) is) (ap (λ (m : Member). m.top) is) c.take_below-doc.ensures.answer);
      long = omega (arith, length-set hs k moved, length-set ss h.scorer v, c.requires.heads.long);
    }

pub returns-clause-lists : goal.returns-clause-lists
returns-clause-lists g c =
    let ss = c.args.scorers.now in
    let hs = c.args.heads.now in
    let k = c.args.k in
    let h = get_or hs k zeros in
    let ms = map wand_member ss in
    let v = c.take_below-doc.new.self in
    let records = c.requires.heads.records in
    let placed = (records.each k zeros c.requires.within).inside in
    let inside : h.scorer < length ss = omega (arith, placed, length-map ss wand_member) in
    let is : wand_member v ≡ cut c.args.end (listed ms h) =
    c.take_below-doc.ensures.member ∙ ap (cut c.args.end) (sym (get_or-map wand_member ss h.scorer _ no_member inside)) in
    let moved : Head = record {
      doc = c.take_below-doc.result;
      block_first = h.block_first;
      block_end = h.block_end;
      block_bound = h.block_bound;
      max_score = h.max_score;
      scorer = h.scorer;
    } in
    ap (λ ns. lists ns (set hs k moved)) (map-set wand_member ss h.scorer v)
    ∙ lists-set (λ (x : Head). x.scorer) ms hs k zeros moved (wand_member v) records.apart c.requires.within refl placed
    ∙ ap (set (lists ms hs) k) (is ∙ ap (cut c.args.end) (sym (get_or-map (listed ms) hs k zeros no_member c.requires.within)))

pub returns-clause-cells : goal.returns-clause-cells
returns-clause-cells g c =
    let ss = c.args.scorers.now in
    let hs = c.args.heads.now in
    let h = get_or hs c.args.k zeros in
    let ms = map wand_member ss in
    let inside : h.scorer < length ss = omega (arith, (c.requires.heads.records.each c.args.k zeros c.requires.within).inside, length-map ss wand_member) in
    let own = get_or-map (listed ms) hs c.args.k zeros no_member c.requires.within ∙ get_or-map wand_member ss h.scorer _ no_member inside in
    subst (λ (m : Member). TakesIn g.C.ScoreCombiner.step c.args.end m c.args.cells.now c.take_below-doc.new.cells) (sym own) c.take_below-doc.ensures.cells

pub returns-clause-answer : goal.returns-clause-answer
returns-clause-answer g c =
    let ss = c.args.scorers.now in
    let hs = c.args.heads.now in
    let k = c.args.k in
    let ms = map wand_member ss in
    let h = get_or hs k zeros in
    let v = c.take_below-doc.new.self in
    let l : k < length (row_lists ss hs) = omega (arith, c.requires.within, length-map hs (listed ms)) in
    let inside : h.scorer < length ss = omega (arith, (c.requires.heads.records.each k zeros c.requires.within).inside, length-map ss wand_member) in
    let own = get_or-map (listed ms) hs k zeros no_member c.requires.within ∙ get_or-map wand_member ss h.scorer _ no_member inside in
    let cut_is : wand_member v ≡ cut c.args.end (get_or (row_lists ss hs) k no_member) = c.take_below-doc.ensures.member ∙ ap (cut c.args.end) (sym own) in
    c.take_below-doc.ensures.answer ∙ ap head (cut_is
    ∙ sym (ap (λ (xs : List Member). get_or xs k no_member) (returns-clause-lists g c)
    ∙ get_or-set_same (row_lists ss hs) k (cut c.args.end (get_or (row_lists ss hs) k no_member)) no_member l))
