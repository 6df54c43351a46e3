use Rattle.std.proofs.Common.{◌∙◌, ap, arith, get_or, map, sym}
use Rattle.qm_combine.proofs.WindowWords.{get_or-there as any}
use Rattle.qm_term.specs.HeadRow.{row_lists}
use Rattle.qm_term.specs.Heads.{no_member}
use Rattle.qm_term.specs.RunScorers.{wand_member}
use Rattle.qm_term.specs.declared.wand.heads.Head.{Head}
use Rattle.qm_term.proofs.RowFront.{bound_here, bound_past}
use Rattle.qm_term.proofs.RowRecords.{doc_at, zeros}
use Rattle.qm_term.proofs.wand.stretches.bound_from.Goals as goal

pub returns-then-heads-k-clause-bound : goal.returns-then-heads-k-clause-bound
returns-then-heads-k-clause-bound g c =
    let hs = c.args.heads.now in
    let k = c.args.k in
    sym (bound_past c.args.low (get_or (row_lists c.args.scorers.now hs) k no_member)
    (omega (arith, doc_at (map wand_member c.args.scorers.now) hs c.requires.heads.records k zeros c.requires.within, c.if-heads-k.true)))

pub returns-then-heads-k-clause-known : goal.returns-then-heads-k-clause-known
returns-then-heads-k-clause-known g c = λ d here.
    absurd (omega (arith, here, c.if-heads-k.true, ap (λ (h : Head). h.doc) (any c.args.heads.now c.args.k zeros d c.requires.within)))

pub bound_in-requires-clause-here : goal.bound_in-requires-clause-here
bound_in-requires-clause-here g c = λ d.
    omega (arith, c.if-heads-k.false, ap (λ (h : Head). h.doc) (any c.args.heads.now c.args.k zeros d c.requires.within))

pub returns-clause-bound : goal.returns-clause-bound
returns-clause-bound g c =
    let hs = c.args.heads.now in
    let k = c.args.k in
    c.bound_in.ensures.bound ∙ sym (bound_here c.args.low (get_or (row_lists c.args.scorers.now hs) k no_member)
    (omega (arith, doc_at (map wand_member c.args.scorers.now) hs c.requires.heads.records k zeros c.requires.within, c.if-heads-k.false)))

pub returns-clause-known : goal.returns-clause-known
returns-clause-known g c = λ d here. c.bound_in.ensures.known d
