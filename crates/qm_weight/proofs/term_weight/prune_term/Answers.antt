-- A run looks at documents and scores alone, from the same threshold on.
use Rattle.std.proofs.Common.{[], subst, w64}
use Rattle.std.proofs.lemmas.Int.{to_z-of_z}
use Rattle.qm_term.specs.Runs.{InRange}
use Rattle.qm_weight.specs.LeafScorers.{IsLeafOf}
use Rattle.qm_weight.specs.Weights.{term_tree}
use Rattle.qm_weight.proofs.RunSteps.{MayPrune-at, MayPrune-bare, leaf-run, run-none, term-run}
use Rattle.qm_weight.proofs.term_weight.prune_term.Given as given
use Rattle.qm_weight.proofs.term_weight.prune_term.Goals as goal

pub block_wand_single_scorer-requires-clause-callable :
    goal.block_wand_single_scorer-requires-clause-callable
block_wand_single_scorer-requires-clause-callable g c =
    let own = subst (IsLeafOf _ (term_tree c.args.weight.now) 1 c.args.reader.now.segment) c.in-Some.is c.requires.leaf in
    let same = to_z-of_z w64 c.args.threshold c.ranges.threshold in
    MayPrune-at (InRange (given.F-step g)) (given.F-pre g) c.args.threshold _ c.args.callback.now _ same
    (MayPrune-bare (InRange (given.F-step g)) (given.F-pre g) _ c.args.callback.now _ (c.requires.allowed _ own.list))

pub returns-in-Some : goal.returns-in-Some
returns-in-Some g c =
    let own = subst (IsLeafOf _ (term_tree c.args.weight.now) 1 c.args.reader.now.segment) c.in-Some.is c.requires.leaf in
    record { calls = leaf-run (given.F-step g) _ 1 _ c.args.threshold _ _ _ _ own.list c.ranges.threshold (term-run (given.F-step g) _ _ _ _ _ c.block_wand_single_scorer.ensures.run) }

pub returns-in-None : goal.returns-in-None
returns-in-None g c =
    let none = subst (IsLeafOf _ (term_tree c.args.weight.now) 1 c.args.reader.now.segment) c.in-None.is c.requires.leaf in
    record {
      calls = record {
        entries = [];
        listed = none;
        run = run-none (given.F-step g) c.args.threshold c.args.callback.now c.counted_none.result c.counted_none.ensures;
      };
    }
