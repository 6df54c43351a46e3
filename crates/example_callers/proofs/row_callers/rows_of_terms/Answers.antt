use Rattle.std.proofs.Common.{◌≡◌, [], ◌∷◌, ◌++◌, append-nil, ap, arith, get_or, false, sym, take, true, ◌∙◌}
use Rattle.qm_postings.specs.LentRow.{lent_row}
use Rattle.qm_postings.specs.Restriction.{rows_wanted}
use Rattle.qm_postings.specs.Rows.{Row, no_row}
use Rattle.example_callers.specs.Found.{is_wanted}
use Rattle.qm_script.proofs.WantedRows.{wanted-more}
use Rattle.example_callers.proofs.row_callers.rows_of_terms.Goals as goal
use Rattle.example_callers.proofs.row_callers.rows_of_terms.Goals.{then-contains+in_ok-copy+in_ok-push, else-contains}

pub loop-place-preserved : goal.loop-place-preserved
loop-place-preserved c =
    let rows = c.args.reader.now.rows in
    let place = c.loop-place.place in
    let wanted = is_wanted c.args.terms.now in
    let own : lent_row c.row-row.result ≡ get_or rows place no_row = c.row-row.ensures in
    let is : wanted (get_or rows place no_row).term ≡ c.contains.result =
    ap wanted (sym (c.term.ensures ∙ ap (λ (r : Row). r.term) own)) ∙ sym c.contains.ensures.value in
    elim c.if-contains.branch [
      | then-contains+in_ok-copy+in_ok-push w ↦ rw w.rows-is (w.in_ok-push.ensures.items
          ∙ (λ i. c.loop-place.invariant i ++ (w.in_ok-copy.ensures.row ∙ own) i ∷ [])
          ∙ sym (wanted-more wanted rows place no_row true (omega arith) (is ∙ w.if-contains.true)))
      | else-contains w ↦ rw w.rows-is (c.loop-place.invariant ∙ sym (append-nil (rows_wanted wanted (take place rows)))
          ∙ sym (wanted-more wanted rows place no_row false (omega arith) (is ∙ w.if-contains.false)))
    ]
