use Rattle.std.proofs.Common.{ap, sym, ◌∙◌}
use Rattle.qm_combine.specs.Rescored.{rescored}
use Rattle.qm_combine.specs.RescoredFacts.{drop-rescored}
use Rattle.cases.proofs.leaf.LeafDocSet.advance.Goals as goal

pub returns-clause-entries : goal.returns-clause-entries
returns-clause-entries c = ap (rescored _) c.advance.ensures.left.entries ∙ sym (drop-rescored _ 1 _)
