use Rattle.std.proofs.Common.{ap, arith, sym, ◌∙◌}
use Rattle.qm_postings.specs.Rows.{Row}
use Rattle.qm_schema.specs.Term.{same_term}
use Rattle.qm_script.proofs.FoundRows.{found-there, none-there}
use Rattle.qm_script.proofs.row_places.row_place.Goals as goal
use Rattle.qm_script.proofs.row_places.row_place.Goals.{else-place-row_count-via-then-place-row_count+else-eq, else-place-row_count-via-else-place-row_count}

pub returns-then-eq-clause-row : goal.returns-then-eq-clause-row
returns-then-eq-clause-row c =
    let rows = c.args.segment.now.rows in
    let own = ap (λ (r : Row). r.term) c.row.ensures in
    found-there rows c.first_place-place.result c.args.term.now c.row_count.ensures.whole.made.are_rows.terms
    (omega (arith, c.if-place-row_count.true, c.row_count.ensures.count))
    (sym (c.term.ensures ∙ own) ∙ (same_term c.term.result.now c.args.term.now).0 (sym c.eq.ensures ∙ c.if-eq.true))

pub returns-else-place-row_count-clause-row : goal.returns-else-place-row_count-clause-row
returns-else-place-row_count-clause-row c =
    let rows = c.args.segment.now.rows in
    let place = c.first_place-place.result in
    none-there rows place c.args.term.now c.row_count.ensures.whole.made.are_rows.terms c.first_place-place.ensures.start
    (elim c.else-place-row_count.branch [
      | else-place-row_count-via-then-place-row_count+else-eq w ↦ (λ within is.
          let own = ap (λ (r : Row). r.term) w.row.ensures in
          let wrong = sym w.if-eq.false ∙ w.eq.ensures ∙ (same_term w.term.result.now c.args.term.now).1 (w.term.ensures ∙ own ∙ is) in
          cc)
      | else-place-row_count-via-else-place-row_count w ↦ (λ within is. omega (arith, within, w.if-place-row_count.false, c.row_count.ensures.count))
    ])
