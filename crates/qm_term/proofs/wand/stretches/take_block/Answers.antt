-- A part of the list in one block is taken in.
use Rattle.std.proofs.Common.{◌≡◌, ◌∙◌, ◌<◌, ◌≤◌, List, ap, arith, get_or, length, map, subst, sym}
use Rattle.qm_combine.proofs.WindowWords.{get_or-there as any}
use Rattle.qm_term.specs.Cells.{TakesIn, cells_start}
use Rattle.qm_term.specs.HeadRow.{row_lists}
use Rattle.qm_term.specs.Heads.{listed, moved_at, no_member}
use Rattle.qm_term.specs.Members.{Member, bound_at}
use Rattle.qm_term.specs.Pivot.{cut, head}
use Rattle.qm_term.specs.RunScorers.{wand_member}
use Rattle.qm_term.specs.Stretches.{HasCellsFor}
use Rattle.qm_term.specs.declared.wand.heads.Head.{Head}
use Rattle.qm_term.proofs.RowRecords.{doc_at, docs_at, zeros}
use Rattle.std.proofs.lemmas.List.{get_or-map}
use Rattle.qm_term.proofs.wand.stretches.take_block.Goals as goal

pub bound_in-bound-requires-clause-here : goal.bound_in-bound-requires-clause-here
bound_in-bound-requires-clause-here g c = λ d. omega (arith, ap (λ (h : Head). h.doc) (any c.args.heads.now c.args.k d zeros c.requires.within))

pub bound_in-bound-requires-clause-below : goal.bound_in-bound-requires-clause-below
bound_in-bound-requires-clause-below g c =
    omega (arith, doc_at (map wand_member c.args.scorers.now) c.args.heads.now c.requires.heads.records c.args.k zeros c.requires.within, c.requires.here, c.requires.below)

pub take_part-requires-clause-start : goal.take_part-requires-clause-start
take_part-requires-clause-start g c =
    subst (λ (xs : List Member). cells_start c.args.cells.now ≤ head (get_or xs c.args.k no_member)) (sym c.bound_in-bound.ensures.lists) c.requires.start

pub take_part-requires-clause-below : goal.take_part-requires-clause-below
take_part-requires-clause-below g c = omega (arith, c.min-stop.ensures, c.requires.below)

pub take_part-requires-clause-block : goal.take_part-requires-clause-block
take_part-requires-clause-block g c = λ d from to.
    let hs = c.args.heads.now in
    let ss = c.args.scorers.now in
    let gs = c.bound_in-bound.new.heads in
    let ts = c.bound_in-bound.new.scorers in
    let ns = map wand_member ts in
    let k = c.args.k in
    let docs = docs_at hs gs c.bound_in-bound.ensures.docs k zeros in
    let l : k < length gs = omega (arith, docs.1, c.requires.within) in
    let h = get_or gs k zeros in
    let r = c.bound_in-bound.ensures.heads.records.each k zeros l in
    let known = c.bound_in-bound.ensures.known zeros in
    let is : get_or (row_lists ts gs) k no_member ≡ listed ns h = get_or-map (listed ns) gs k zeros no_member l in
    let was : get_or (row_lists ss hs) k no_member ≡ listed ns h =
    sym (ap (λ (xs : List Member). get_or xs k no_member) c.bound_in-bound.ensures.lists) ∙ is in
    let same : h.doc ≡ (get_or hs k zeros).doc = docs.0 c.requires.within in
    let p = (get_or hs k zeros).doc in
    let at : h.doc ≡ head (listed ns h) = r.doc in
    let end = c.end_from.ensures.here (omega (arith, same)) in
    let far : d ≤ h.block_end = omega (arith, to, c.min-stop.ensures, end) in
    let after : h.doc ≤ d = omega (arith, from, at, ap head is) in
    ap (λ (m : Member). bound_at d m.blocks) is ∙ r.bound d (omega (arith, known.0, same, after)) far
    ∙ sym (c.bound_in-bound.ensures.bound ∙ ap (λ (m : Member). bound_at p m.blocks) was ∙ r.bound p known.0 known.1)

pub take_part-requires-clause-cells : goal.take_part-requires-clause-cells
take_part-requires-clause-cells g c =
    let less : c.min-stop.result ≤ c.args.end = omega (arith, c.min-stop.ensures) in
    subst (λ (xs : List Member). HasCellsFor g.C.ScoreCombiner.step g.C.ScoreCombiner.cleared c.min-stop.result (get_or xs c.args.k no_member) c.args.cells.now)
    (sym c.bound_in-bound.ensures.lists) (record {
      covered = omega (arith, less, c.requires.cells.covered);
      room = λ d from l. c.requires.cells.room d from (omega (arith, l, less));
      fits = λ d from l. c.requires.cells.fits d from (omega (arith, l, less));
    })

pub returns-clause-block : goal.returns-clause-block
returns-clause-block g c =
    let hs = c.args.heads.now in
    let ss = c.args.scorers.now in
    let gs = c.bound_in-bound.new.heads in
    let k = c.args.k in
    let ls = row_lists ss hs in
    let same = c.bound_in-bound.ensures.lists in
    let docs = docs_at hs gs c.bound_in-bound.ensures.docs k zeros in
    let l : k < length gs = omega (arith, docs.1, c.requires.within) in
    let known = c.bound_in-bound.ensures.known zeros in
    let doc : (get_or gs k zeros).doc ≡ (get_or hs k zeros).doc = docs.0 c.requires.within in
    let at : (get_or hs k zeros).doc ≡ head (get_or ls k no_member) = doc_at (map wand_member ss) hs c.requires.heads.records k zeros c.requires.within in
    let end = c.end_from.ensures.here (omega (arith, doc)) in
    record {
      stop = c.min-stop.result;
      within = omega (arith, c.min-stop.ensures);
      past = omega (
        arith,
        at,
        known.1,
        doc,
        end,
        c.min-stop.ensures,
        c.requires.here,
        c.requires.below,
      );
      lists = c.take_part.ensures.lists ∙ ap (moved_at no_member k (cut c.min-stop.result)) same;
      cells = subst (λ (xs : List Member). TakesIn g.C.ScoreCombiner.step c.min-stop.result (get_or xs k no_member) c.args.cells.now c.take_part.new.cells)
          same c.take_part.ensures.cells;
    }

pub returns-clause-answer : goal.returns-clause-answer
returns-clause-answer g c = c.take_part.ensures.answer
