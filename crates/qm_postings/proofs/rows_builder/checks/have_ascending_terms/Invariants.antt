use Rattle.std.proofs.Common.{◌≡◌, map}
use Rattle.std.specs.List.{AllAdjacentBelow}
use Rattle.std.specs.declared.cmp.Ordering.TheVariants.{Less}
use Rattle.qm_schema.specs.Term.{term_cmp}
use Rattle.qm_postings.proofs.rows_builder.checks.have_ascending_terms.Given as goal

abbrev pub invariant-loop-place : goal.invariant-loop-place
invariant-loop-place g l = AllAdjacentBelow (λ s t. term_cmp s t ≡ Less) (map (λ r. r.term) (g.R.LentRows.rows l.rows)) l.place
