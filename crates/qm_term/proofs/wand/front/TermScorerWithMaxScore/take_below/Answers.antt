-- One by one the documents of the list are added.
use Rattle.std.proofs.Common.{◌≡◌, ◌∙◌, ℕ, suc, ◌<◌, ◌≤◌, ap, arith, length, subst, sym}
use Rattle.qm_docset.specs.declared.numbers.TheConstants.{TERMINATED}
use Rattle.qm_term.specs.Cells.{Adds, TakesIn, cell_of}
use Rattle.qm_term.specs.Members.{IsMember, Member, bound_at}
use Rattle.qm_term.specs.Pivot.{cut, head, next}
use Rattle.qm_term.specs.RunScorers.{first_score, wand_member}
use Rattle.qm_term.specs.declared.wand.cells.Cell.{Cell}
use Rattle.qm_term.proofs.RowMoves.{cut_head}
use Rattle.qm_term.proofs.RunRows.{law, member_score_le}
use Rattle.qm_term.proofs.StretchCells.{takes_first, takes_none, takes_on}
use Rattle.qm_term.proofs.StretchCuts.{cut_all, cut_cut}
use Rattle.qm_term.proofs.WandBounds.{IsMember-cut}
use Rattle.qm_term.proofs.WandSteps.{next-cut}
use Rattle.qm_term.proofs.wand.front.TermScorerWithMaxScore.take_below.Goals as goal
use Rattle.qm_docset.proofs.Gathering.{head_document-from}
use Rattle.qm_combine.proofs.Chained.{length-stepped}

pub loop-doc-init : goal.loop-doc-init
loop-doc-init g c =
    let m = wand_member c.args.self.now in
    record {
      valid = c.requires.valid;
      here = c.doc-doc.ensures;
      part = (
        0,
        omega arith,
        sym (cut_all 0 m (law c.args.self.now c.requires.valid) (omega arith)),
        takes_none g.C.ScoreCombiner.step 0 m c.args.cells.now (law c.args.self.now c.requires.valid) (omega arith),
      );
    }

pub add-requires-clause-span : goal.add-requires-clause-span
add-requires-clause-span g c =
    let m = wand_member c.args.self.now in
    let part = c.loop-doc.invariant.part in
    let on : head m ≤ head (cut part.0 m) = cut_head part.0 m (law c.args.self.now c.requires.valid) in
    let here : c.loop-doc.doc ≡ head (cut part.0 m) = c.loop-doc.invariant.here ∙ ap head part.2 in (
      omega (arith, part.3.alike.start, c.requires.start, on, here),
      omega (arith, part.3.alike.end, c.requires.cells.covered, c.loop-doc-test.true),
    )

pub add-requires-clause-score : goal.add-requires-clause-score
add-requires-clause-score g c =
    let m = wand_member c.args.self.now in
    let part = c.loop-doc.invariant.part in
    let top : (wand_member c.loop-doc.self).top ≡ m.top = ap (λ (n : Member). n.top) part.2 in
    let on : head m ≤ head (cut part.0 m) = cut_head part.0 m (law c.args.self.now c.requires.valid) in
    let after : head m ≤ c.loop-doc.doc = omega (arith, on, c.loop-doc.invariant.here, ap head part.2) in
    omega (
      arith,
      c.score.ensures,
      member_score_le (wand_member c.loop-doc.self) (law c.loop-doc.self c.loop-doc.invariant.valid),
      top,
      c.requires.cells.fits c.loop-doc.doc after c.loop-doc-test.true,
    )

pub add-requires-clause-room : goal.add-requires-clause-room
add-requires-clause-room g c =
    let m = wand_member c.args.self.now in
    let part = c.loop-doc.invariant.part in
    let doc = c.loop-doc.doc in
    let top : (wand_member c.loop-doc.self).top ≡ m.top = ap (λ (n : Member). n.top) part.2 in
    let here : doc ≡ head (cut part.0 m) = c.loop-doc.invariant.here ∙ ap head part.2 in
    let from : part.0 ≤ doc =
    omega (arith, here, head_document-from part.0 m.entries (omega (arith, part.1, c.requires.end))) in
    let on : head m ≤ head (cut part.0 m) = cut_head part.0 m (law c.args.self.now c.requires.valid) in
    let room = c.requires.cells.room doc (omega (arith, on, here)) c.loop-doc-test.true in
    let same : cell_of c.loop-doc.cells doc ≡ cell_of c.args.cells.now doc = (part.3.beyond doc from).1 in
    subst (λ s. g.C.ScoreCombiner.has_room s c.score.result) (sym (ap (λ (x : Cell _). x.state) same ∙ room.state))
    (g.met.C.ScoreCombiner.room room.start room.scores c.score.result (omega (
      arith,
      c.score.ensures,
      member_score_le (wand_member c.loop-doc.self) (law c.loop-doc.self c.loop-doc.invariant.valid),
      top,
      room.fits,
    )))

pub add-requires-clause-fits : goal.add-requires-clause-fits
add-requires-clause-fits g c =
    let m = wand_member c.args.self.now in
    let is = law c.args.self.now c.requires.valid in
    let part = c.loop-doc.invariant.part in
    let doc = c.loop-doc.doc in
    let here : doc ≡ head (cut part.0 m) = c.loop-doc.invariant.here ∙ ap head part.2 in
    let from : part.0 ≤ doc = omega (arith, here, head_document-from part.0 m.entries (omega (arith, part.1, c.requires.end))) in
    let on : head m ≤ head (cut part.0 m) = cut_head part.0 m is in
    let same : cell_of c.loop-doc.cells doc ≡ cell_of c.args.cells.now doc = (part.3.beyond doc from).1 in
    omega (
      arith,
      ap (λ (x : Cell _). x.bound) same,
      c.requires.cells.fits doc (omega (arith, on, here)) c.loop-doc-test.true,
      c.requires.block doc (omega (arith, on, here)) c.loop-doc-test.true,
      is.bounds doc,
    )

pub loop-doc-preserved : goal.loop-doc-preserved
loop-doc-preserved g c =
    let m = wand_member c.args.self.now in
    let is = law c.args.self.now c.requires.valid in
    let part = c.loop-doc.invariant.part in
    let s = part.0 in
    let doc = c.loop-doc.doc in
    let step = g.C.ScoreCombiner.step in
    let now = c.loop-doc.cells in
    let n = cut s m in
    let own : IsMember n = IsMember-cut s m is in
    let here : head n ≡ doc = sym (c.loop-doc.invariant.here ∙ ap head part.2) in
    let from : s ≤ doc = omega (arith, here, head_document-from s m.entries (omega (arith, part.1, c.requires.end))) in
    let on : head m ≤ doc = omega (arith, here, cut_head s m is) in
    let below : doc < TERMINATED = omega (arith, c.loop-doc-test.true, c.requires.end) in
    let score : c.score.result ≡ first_score n = c.score.ensures ∙ ap first_score part.2 in
    let block : bound_at doc n.blocks ≡ c.args.bound = c.requires.block doc on c.loop-doc-test.true in
    let added = subst (λ (x : ℕ). Adds step doc x c.args.bound now c.add.new.self) score c.add.ensures in
    let first : TakesIn step (suc doc) n now c.add.new.self = takes_first step doc c.args.bound n now c.add.new.self own here below block added in
    record {
      valid = c.advance-doc.ensures.valid;
      here = c.advance-doc.ensures.answer;
      part = (
        suc doc,
        omega (arith, c.loop-doc-test.true),
        c.advance-doc.ensures.member ∙ ap next part.2 ∙ next-cut doc n own here ∙ cut_cut s (suc doc) m (omega (arith, from)),
        takes_on step s (suc doc) m c.args.cells.now now c.add.new.self is (omega (arith, from)) part.3 first,
      );
    }

pub loop-doc-smaller : goal.loop-doc-smaller
loop-doc-smaller g c =
    let m = wand_member c.loop-doc.self in
    omega (
      arith,
      ap (λ (n : Member). length n.entries) c.advance-doc.ensures.member,
      length-stepped m.entries (omega (arith, c.loop-doc.invariant.here, c.loop-doc-test.true, c.requires.end)),
    )

pub returns-clause-member : goal.returns-clause-member
returns-clause-member g c =
    let m = wand_member c.args.self.now in
    let is = law c.args.self.now c.requires.valid in
    let part = c.loop-doc.invariant.part in
    let past : c.args.end ≤ head (cut part.0 m) = omega (arith, c.loop-doc-test.false, c.loop-doc.invariant.here, ap head part.2) in
    part.2 ∙ sym (cut_all c.args.end (cut part.0 m) (IsMember-cut part.0 m is) past) ∙ cut_cut part.0 c.args.end m part.1

pub returns-clause-cells : goal.returns-clause-cells
returns-clause-cells g c =
    let m = wand_member c.args.self.now in
    let is = law c.args.self.now c.requires.valid in
    let part = c.loop-doc.invariant.part in
    let step = g.C.ScoreCombiner.step in
    let past : c.args.end ≤ head (cut part.0 m) = omega (arith, c.loop-doc-test.false, c.loop-doc.invariant.here, ap head part.2) in
    takes_on step part.0 c.args.end m c.args.cells.now c.loop-doc.cells c.loop-doc.cells is part.1 part.3
    (takes_none step c.args.end (cut part.0 m) c.loop-doc.cells (IsMember-cut part.0 m is) past)
