use Rattle.std.proofs.Common.{ap, is_some, refl, sym, ◌∙◌}
use Rattle.qm_merge.proofs.LeftSteps.{id-more, id-none}
use Rattle.qm_merge.proofs.alive_columns.alive_column.Goals as goal
use Rattle.qm_merge.proofs.alive_columns.alive_column.Goals.{else-is_some, then-is_some+in_ok-push}

pub loop-doc-preserved : goal.loop-doc-preserved
loop-doc-preserved c =
    let numbers = c.args.numbers.now in
    let ids = c.args.ids.now in
    let doc = c.loop-doc.doc in
    let done = c.loop-doc.column.items in
    elim c.if-is_some.branch [
      | then-is_some+in_ok-push w ↦ rw w.column-is (w.in_ok-push.ensures.items
          ∙ id-more numbers ids doc done c.loop-doc.invariant _ refl (ap is_some (sym c.number_of.ensures) ∙ sym c.is_some.ensures ∙ w.if-is_some.true))
      | else-is_some w ↦ rw w.column-is
          (id-none numbers ids doc done c.loop-doc.invariant (ap is_some (sym c.number_of.ensures) ∙ sym c.is_some.ensures ∙ w.if-is_some.false))
    ]
