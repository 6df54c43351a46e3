use Rattle.std.proofs.Common.{All, pos}
use Rattle.std.specs.Prelude.{◌≤ℤ◌}
use Rattle.qm_combine.specs.AllDocuments.{IsOverAll}
use Rattle.cases_cursors.proofs.constants.add_constants.Given as goal

abbrev pub invariant-loop-end : goal.invariant-loop-end
invariant-loop-end l = All (λ m. IsOverAll m.docset × (pos 0 ≤ℤ m.score)) l.members.items
