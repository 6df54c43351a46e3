-- What all of the terms have is the list of the tree, since their bounds together are a score.
use Rattle.std.proofs.Common.{◌≤◌, All, subst, sym, w64}
use Rattle.std.proofs.lemmas.Int.{to_z-of_z}
use Rattle.qm_combine.specs.Union.{total_top}
use Rattle.qm_docset.specs.Entry.{greatest_score}
use Rattle.qm_docset.specs.Lists.{bounds}
use Rattle.qm_term.specs.Runs.{InRange}
use Rattle.qm_term.specs.TermScorer.{IsTermScorer}
use Rattle.qm_weight.proofs.Joins.{not_refused}
use Rattle.qm_weight.proofs.RunSteps.{MayPrune-at, tree-run}
use Rattle.qm_weight.proofs.TermRuns.{common-listed, of_terms}
use Rattle.qm_weight.proofs.pruning.prune_over_all.Goals as goal

pub check_bounds-requires : goal.check_bounds-requires
check_bounds-requires g c = record { valid = subst (All IsTermScorer) (sym c.deref.ensures.value) c.requires.terms.placed.valid }

pub block_wand_all-requires-clause-callable : goal.block_wand_all-requires-clause-callable
block_wand_all-requires-clause-callable g c =
    let tree = g.W.StandsFor.tree c.args.weight.now in
    let fits = subst (λ ss. total_top (bounds of_terms ss) ≤ greatest_score) c.deref.ensures.value
    (not_refused of_terms c.deref.result.now c.in_ok-check_bounds.field-0 c.in_ok-check_bounds.ensures.refused) in
    let listed = common-listed tree c.args.boost c.args.reader.now.segment c.args.terms.items c.requires.terms fits in
    MayPrune-at (InRange (goal.F-step g)) (goal.F-pre g) c.args.threshold _ c.args.callback.now _ (to_z-of_z w64 c.args.threshold c.ranges.threshold)
    (c.requires.allowed _ listed)

pub returns-clause-calls : goal.returns-clause-calls
returns-clause-calls g c =
    let tree = g.W.StandsFor.tree c.args.weight.now in
    let fits = subst (λ ss. total_top (bounds of_terms ss) ≤ greatest_score) c.deref.ensures.value
    (not_refused of_terms c.deref.result.now c.in_ok-check_bounds.field-0 c.in_ok-check_bounds.ensures.refused) in
    let listed = common-listed tree c.args.boost c.args.reader.now.segment c.args.terms.items c.requires.terms fits in
    tree-run (goal.F-step g) tree c.args.boost _ c.args.threshold _ _ _ _ listed c.ranges.threshold c.block_wand_all.ensures.run
