use Rattle.std.proofs.Common.{All, pos}
use Rattle.std.specs.Prelude.{◌≤ℤ◌}
use Rattle.qm_combine.specs.AllDocuments.{IsOverAll}
use Rattle.cases_cursors.proofs.constants.read_constants.Given as goal

abbrev pub invariant-loop-part : goal.invariant-loop-part
invariant-loop-part l = All (λ m. IsOverAll m.docset × (pos 0 ≤ℤ m.score)) l.members.items
