use Rattle.std.proofs.Common.{rules, true}
use Rattle.std.proofs.lemmas.List.Sorted.{non_decreasing_from_is_sorted}
use Rattle.cases_postings.proofs.spelled.read_rising_norms.Goals as goal

pub returns : goal.returns
returns c = non_decreasing_from_is_sorted _ true (search (rules, c.if-not-is_sorted.ensures.by_index))
