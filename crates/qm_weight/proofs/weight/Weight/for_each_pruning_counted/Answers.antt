-- The run over the scorer is that over the tree.
use Rattle.std.proofs.Common.{w64}
use Rattle.std.proofs.lemmas.Int.{to_z-of_z}
use Rattle.qm_weight.proofs.RunSteps.{tree-run}
use Rattle.qm_weight.proofs.weight.Weight.for_each_pruning_counted.Goals as goal

pub prune_scorer-requires-clause-allowed :
    goal.prune_scorer-requires-clause-allowed
prune_scorer-requires-clause-allowed g c =
    rw (to_z-of_z w64 c.args.threshold c.ranges.threshold) (c.requires.allowed _ c.in_ok-scorer.ensures.scorer.list)

pub returns-clause-calls : goal.returns-clause-calls
returns-clause-calls g c =
    tree-run _ _ 1 _ c.args.threshold _ _ _ _ c.in_ok-scorer.ensures.scorer.list c.ranges.threshold c.prune_scorer.ensures.calls
