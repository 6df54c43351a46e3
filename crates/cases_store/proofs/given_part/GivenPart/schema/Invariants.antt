use Rattle.std.proofs.Common.{◌≡◌, length}
use Rattle.cases_store.proofs.given_part.GivenPart.schema.Given as goal

abbrev pub invariant-loop-field : goal.invariant-loop-field
invariant-loop-field l = length l.builder ≡ l.count
