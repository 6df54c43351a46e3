use Rattle.std.proofs.Common.{◌<◌, arith, length, sym, ◌∙◌}
use Rattle.qm_postings.specs.LentRow.{lent_row}
use Rattle.qm_merge.proofs.LeftSteps.{row-more, row-none}
use Rattle.qm_merge.proofs.alive_rows.alive_rows.Goals as goal
use Rattle.qm_merge.proofs.alive_rows.alive_rows.Goals.{else-has_posting, then-has_posting+in_ok-push}

pub loop-place-preserved : goal.loop-place-preserved
loop-place-preserved c =
    let numbers = c.args.numbers.now in
    let rows = c.args.segment.now.rows in
    let place = c.loop-place.place in
    let done = c.loop-place.rows.items in
    let within : place < length rows = omega (arith, c.loop-place-test.true, c.row_count-place-end.ensures.count) in
    elim c.if-has_posting.branch [
      | then-has_posting+in_ok-push w ↦ rw w.rows-is (w.in_ok-push.ensures.items
          ∙ row-more numbers rows place done (lent_row c.row.result) c.in_ok-row.row within c.row.ensures c.in_ok-row.ensures.row c.loop-place.invariant
          (sym c.has_posting.ensures ∙ w.if-has_posting.true))
      | else-has_posting w ↦ rw w.rows-is
          (row-none numbers rows place done (lent_row c.row.result) c.in_ok-row.row within c.row.ensures c.in_ok-row.ensures.row c.loop-place.invariant
          (sym c.has_posting.ensures ∙ w.if-has_posting.false))
    ]
