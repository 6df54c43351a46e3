use Rattle.std.proofs.Common.{ap, arith, length, subst, sym, ◌++◌, ◌∷◌, [], ◌∙◌}
use Rattle.std.proofs.lemmas.List.{length-drop}
use Rattle.qm_postings.specs.Kept.{greatest}
use Rattle.qm_postings.specs.RowsSoFar.{IsLaid, RowsSoFar, begun, pushed_row}
use Rattle.qm_postings.proofs.BuiltRows.{invariant-row, shown-row}
use Rattle.qm_postings.proofs.NumberedPostings.{ascend_short}
use Rattle.qm_postings.proofs.rows_builder.RowsBuilder.end_row.Goals as goal

pub overflow_cast-count : goal.overflow_cast-count
overflow_cast-count c =
    let it = c.self.inside in
    let short = ascend_short 0 c.args.self.now.documents (omega arith) c.requires.laid.ascending in
    omega (
      arith,
      short,
      ap (λ (b : RowsSoFar). length b.documents) c.self.view_is,
      length-drop it.start it.arrays.documents.items,
      c.len.ensures,
      it.arrays.documents.ok.0,
    )

pub invariant_of-self-2 : goal.invariant_of-self-2
invariant_of-self-2 c =
    let it = c.self.inside in
    invariant-row it.arrays c.push.new.self.items it.start it.positions_start c.self.invariant c.args.term _ _ _ _ _
    (subst (λ (b : RowsSoFar). IsLaid (pushed_row c.args.term b)) (sym c.self.view_is) c.requires.laid) c.in_ok-push.ensures.items
    (omega (arith, c.len.ensures, it.arrays.documents.ok.0)) (c.greatest.ensures ∙ ap greatest c.part-frequencies.ensures)
    (omega (arith, c.len-2.ensures, it.arrays.positions.ok.0)) (omega (arith, c.len-self-inside.ensures, it.arrays.documents.ok.0))
    (omega (arith, c.len-self-inside-2.ensures, it.arrays.positions.ok.0))

pub returns-clause-ended : goal.returns-clause-ended
returns-clause-ended c =
    let it = c.self.inside in
    shown-row it.arrays c.push.new.self.items it.start it.positions_start c.self.invariant c.args.term _ _ _ _ _
    (subst (λ (b : RowsSoFar). IsLaid (pushed_row c.args.term b)) (sym c.self.view_is) c.requires.laid) c.in_ok-push.ensures.items
    (omega (arith, c.len.ensures, it.arrays.documents.ok.0)) (c.greatest.ensures ∙ ap greatest c.part-frequencies.ensures)
    (omega (arith, c.len-2.ensures, it.arrays.positions.ok.0)) (omega (arith, c.len-self-inside.ensures, it.arrays.documents.ok.0))
    (omega (arith, c.len-self-inside-2.ensures, it.arrays.positions.ok.0))
    ∙ ap (λ (b : RowsSoFar). begun (b.rows ++ pushed_row c.args.term b ∷ [])) c.self.view_is
