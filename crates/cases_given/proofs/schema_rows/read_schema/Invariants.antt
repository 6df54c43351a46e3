use Rattle.std.proofs.Common.{◌≡◌, length}
use Rattle.cases_given.proofs.schema_rows.read_schema.Given as goal

abbrev pub invariant-loop-row : goal.invariant-loop-row
invariant-loop-row l = length l.schema ≡ l.count
