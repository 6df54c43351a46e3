use Rattle.std.proofs.Common.{◌≡◌, take}
use Rattle.qm_postings.specs.Restriction.{rows_wanted}
use Rattle.example_callers.specs.Found.{is_wanted}
use Rattle.example_callers.proofs.row_callers.rows_of_terms.Given as goal

abbrev pub invariant-loop-place : goal.invariant-loop-place
invariant-loop-place l = l.rows.items ≡ rows_wanted (is_wanted l.terms) (take l.place l.reader.rows)
