use Rattle.std.proofs.Common.{◌≡◌, map}
use Rattle.std.specs.List.{range_with_len}
use Rattle.qm_postings.specs.Rows.{column_of}
use Rattle.qm_script.proofs.terms_alone.all_columns.Given as goal

abbrev pub invariant-loop-field : goal.invariant-loop-field
invariant-loop-field l = map (λ c. c.items) l.columns.items ≡ map (column_of l.segment.segment) (range_with_len 0 l.field)
