use Rattle.std.proofs.Common.{◌≡◌}
use Rattle.qm_postings.proofs.term_row.built_of.Given as goal

abbrev pub invariant-loop-row : goal.invariant-loop-row
invariant-loop-row l = record { rows : l.built.rows ≡ l.yielded }
