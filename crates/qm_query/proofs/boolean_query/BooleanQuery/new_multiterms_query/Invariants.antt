use Rattle.std.proofs.Common.{◌≡◌, map}
use Rattle.qm_query.specs.Query.{clause_of, should_terms}
use Rattle.qm_query.proofs.boolean_query.BooleanQuery.new_multiterms_query.Given as goal

abbrev pub invariant-loop-term : goal.invariant-loop-term
invariant-loop-term l = map clause_of l.clauses.items ≡ should_terms l.yielded
