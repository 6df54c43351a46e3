use Rattle.std.proofs.Common.{◌≡◌, take}
use Rattle.qm_postings.specs.Restriction.{rows_wanted}
use Rattle.qm_script.specs.Wanted.{is_wanted}
use Rattle.qm_script.proofs.terms_alone.rows_of_terms.Given as goal

abbrev pub invariant-loop-term : goal.invariant-loop-term
invariant-loop-term l = l.rows.items ≡ rows_wanted (is_wanted (take l.term-index l.terms)) l.segment.rows
