-- A run looks at documents and scores alone, from the same threshold on.
use Rattle.std.proofs.Common.{◌≡◌, List, ap, subst, sym, w64}
use Rattle.std.proofs.lemmas.Int.{to_z-of_z}
use Rattle.qm_docset.specs.Entry.{Entry}
use Rattle.qm_scorer.specs.Bare.{bare}
use Rattle.qm_scorer.specs.Tree.{tree_entries}
use Rattle.qm_term.specs.Conjunction.{PrunesBy}
use Rattle.qm_term.specs.Runs.{InRange, MayPrune}
use Rattle.qm_term.specs.TermScorer.{scored_left}
use Rattle.qm_weight.proofs.RunSteps.{MayPrune-at, MayPrune-bare, PrunesBy-at, PrunesBy-bare, term-run}
use Rattle.qm_weight.proofs.TermRuns.{of_terms}
use Rattle.qm_weight.proofs.terms_weight.pruned.prune_borrowed.Goals as goal

pub block_wand_single_scorer-requires-clause-callable :
    goal.block_wand_single_scorer-requires-clause-callable
block_wand_single_scorer-requires-clause-callable g c =
    let call = InRange (goal.F-step g) in
    let same : tree_entries of_terms c.args.scorer ≡ bare (scored_left c.in-Own.term) = ap (tree_entries of_terms) c.in-Own.is in
    MayPrune-at call (goal.F-pre g) c.args.threshold _ c.args.callback.now _ (to_z-of_z w64 c.args.threshold c.ranges.threshold)
    (MayPrune-bare call (goal.F-pre g) c.args.threshold c.args.callback.now _
    (subst (λ (es : List Entry). MayPrune call (goal.F-pre g) c.args.threshold c.args.callback.now es) same c.requires.allowed))

pub prune_to_bound-requires : goal.prune_to_bound-requires
prune_to_bound-requires g c = record {
  placed = c.requires.placed;
  allowed = MayPrune-at (InRange (goal.F-step g)) (goal.F-pre g) c.args.threshold _ c.args.callback.now _
      (to_z-of_z w64 c.args.threshold c.ranges.threshold) c.requires.allowed;
}

pub returns-in-Own : goal.returns-in-Own
returns-in-Own g c =
    let step = goal.F-step g in
    let same : tree_entries of_terms c.args.scorer ≡ bare (scored_left c.in-Own.term) = ap (tree_entries of_terms) c.in-Own.is in
    let z = c.block_wand_single_scorer.new.callback in
    let k = c.block_wand_single_scorer.result in
    let run = PrunesBy-bare step _ _ _ k z (term-run step _ _ _ k z c.block_wand_single_scorer.ensures.run) in
    record {
      calls = subst (λ (es : List Entry). PrunesBy step es c.args.threshold c.args.callback.now k z) (sym same)
          (PrunesBy-at step _ c.args.threshold c.args.callback.now k z c.ranges.threshold run);
    }
