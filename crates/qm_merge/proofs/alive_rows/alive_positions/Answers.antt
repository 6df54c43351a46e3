use Rattle.std.proofs.Common.{◌≡◌, ◌++◌, List, ℕ, [], ap, length, sym, ◌∙◌}
use Rattle.std.proofs.lemmas.List.{nil_from_length}
use Rattle.qm_postings.specs.LentRow.{lent_row}
use Rattle.qm_merge.specs.AliveRows.{positions_left}
use Rattle.qm_merge.proofs.RowsLeft.{none-left}
use Rattle.qm_merge.proofs.alive_rows.alive_positions.Goals as goal
use Rattle.qm_merge.proofs.alive_rows.alive_positions.Goals.{else-not-is_empty, then-not-is_empty+in_ok-push_positions}
use borrow.Author.Tests.{eqb-true}

pub returns-clause-positions : goal.returns-clause-positions
returns-clause-positions c =
    let r = lent_row c.args.row.now in
    let numbers = c.args.numbers.now in
    let left : List ℕ = positions_left numbers r.documents r.frequencies r.positions in
    elim c.if-not-is_empty.branch [
      | then-not-is_empty+in_ok-push_positions w ↦ rw w.positions-is
          (w.in_ok-push_positions.ensures.added ∙ ap (λ l. l ++ left) c.new-positions.ensures.items)
      | else-not-is_empty w ↦
          let none : r.positions ≡ [] = sym c.positions.ensures
          ∙ nil_from_length c.positions.result.now (eqb-true (length c.positions.result.now) 0 (sym c.is_empty.ensures ∙ w.if-not-is_empty.false)) in
          rw w.positions-is (c.new-positions.ensures.items
          ∙ sym (ap (positions_left numbers r.documents r.frequencies) none ∙ none-left numbers r.documents r.frequencies))
    ]
