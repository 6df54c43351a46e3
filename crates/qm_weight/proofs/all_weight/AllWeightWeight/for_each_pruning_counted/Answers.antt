use Rattle.std.proofs.Common.{ap, ◌∙◌, w64}
use Rattle.std.proofs.lemmas.Int.{to_z-of_z}
use Rattle.qm_combine.specs.AllDocuments.{all_from, all_left}
use Rattle.qm_term.specs.Runs.{InRange}
use Rattle.qm_weight.proofs.Leaves.{IsListOf-all}
use Rattle.qm_weight.proofs.RunSteps.{MayPrune-at, tree-run}
use Rattle.qm_weight.proofs.all_weight.AllWeightWeight.for_each_pruning_counted.Given as given
use Rattle.qm_weight.proofs.all_weight.AllWeightWeight.for_each_pruning_counted.Goals as goal

pub prune_to_bound-requires-clause-allowed :
    goal.prune_to_bound-requires-clause-allowed
prune_to_bound-requires-clause-allowed g c =
    let listed =
    IsListOf-all c.args.reader.now.segment (all_left c.new-scorer.result) (c.new-scorer.ensures.lists.entries ∙ ap (all_from 0) c.max_doc.ensures.number) in
    MayPrune-at (InRange (given.F-step g)) (given.F-pre g) c.args.threshold _ c.args.callback.now
    (all_left c.new-scorer.result) (to_z-of_z w64 c.args.threshold c.ranges.threshold) (c.requires.allowed _ listed)

pub returns-clause-calls : goal.returns-clause-calls
returns-clause-calls g c =
    let listed =
    IsListOf-all c.args.reader.now.segment (all_left c.new-scorer.result) (c.new-scorer.ensures.lists.entries ∙ ap (all_from 0) c.max_doc.ensures.number) in
    tree-run (given.F-step g) _ 1 _ c.args.threshold _ _ _ (all_left c.new-scorer.result) listed c.ranges.threshold c.prune_to_bound.ensures.calls
