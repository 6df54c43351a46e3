use Rattle.std.proofs.Common.{take}
use Rattle.std.specs.Prelude.{All}
use Rattle.qm_postings.specs.Rows.{IsRow}
use Rattle.qm_postings.proofs.rows_builder.checks.are_rows.Given as goal

abbrev pub invariant-loop-place : goal.invariant-loop-place
invariant-loop-place g l = All (IsRow l.schema l.max_doc) (take l.place (g.R.LentRows.rows l.rows))
