use Rattle.std.proofs.Common.{◌≡◌, ◌<◌, ℕ, [], cond, get_or, length, map}
use Rattle.qm_postings.specs.Segment.{keeps_lengths}
use Rattle.qm_postings.proofs.segment_builder.columns.are_columns.Given as goal

abbrev pub invariant-loop-field : goal.invariant-loop-field
invariant-loop-field l = (f : ℕ) → f < l.field → length (get_or (map (λ c. c.items) l.columns) f []) ≡ cond (keeps_lengths l.schema f) l.count 0
