-- What the terms list together is the list of the tree, by whichever of the two combiners.
use Rattle.std.proofs.Common.{◌≡◌, ℕ, List, arith, subst, w64}
use Rattle.std.proofs.lemmas.Int.{to_z-of_z}
use Rattle.qm_postings.specs.Segment.{Segment}
use Rattle.qm_scorer.specs.AnyCombiner.{any_combined}
use Rattle.qm_scorer.specs.declared.any_combiner.AnyCombiner.{AnyCombiner}
use Rattle.qm_term.specs.Runs.{InRange}
use Rattle.qm_term.specs.declared.norms.Norms.{Ghosts as NormGhosts}
use Rattle.qm_term.specs.declared.term_scorer.TermScorer.{TermScorer}
use Rattle.qm_weight.specs.ClauseScorers.{KeepsOneScore}
use Rattle.qm_weight.specs.TermUnions.{ListTogether}
use Rattle.qm_weight.specs.Tree.{Tree}
use Rattle.qm_weight.proofs.RunSteps.{MayPrune-at, blocks-run}
use Rattle.qm_weight.proofs.TermRuns.{of_terms, tops-members}
use Rattle.qm_weight.proofs.TermUnions.{refused-together}
use Rattle.qm_weight.proofs.pruning.prune_by_blocks.Goals as goal

-- the same combiner
listed_by : {N : Type 0} {G : NormGhosts N} (combiner same : AnyCombiner) (tree : Tree) (b : ℕ) (segment : Segment) (ss : List (TermScorer N G)) →
    combiner ≡ same → ListTogether of_terms 1 (any_combined combiner) tree b segment ss → ListTogether of_terms 1 (any_combined same) tree b segment ss
listed_by combiner same tree b segment ss is h = subst (λ k. ListTogether of_terms 1 (any_combined k) tree b segment ss) is h

pub block_wand-requires-clause-valid : goal.block_wand-requires-clause-valid
block_wand-requires-clause-valid g c = c.requires.terms.placed.valid

pub block_wand-requires-in-DisjunctionMax-clause-valid : goal.block_wand-requires-in-DisjunctionMax-clause-valid
block_wand-requires-in-DisjunctionMax-clause-valid g c = c.requires.terms.placed.valid

pub block_wand-requires-clause-callable : goal.block_wand-requires-clause-callable
block_wand-requires-clause-callable g c =
    let tree = g.W.StandsFor.tree c.args.weight.now in
    let listed = listed_by c.args.joined.combiner _ tree c.args.boost c.args.reader.now.segment c.args.joined.terms.items c.in-Sum.is c.requires.terms in
    MayPrune-at (InRange (goal.F-step g)) (goal.F-pre g) c.args.threshold _ c.args.callback.now _ (to_z-of_z w64 c.args.threshold c.ranges.threshold)
    (c.requires.allowed _ listed.list)

pub block_wand-requires-in-DisjunctionMax-clause-callable : goal.block_wand-requires-in-DisjunctionMax-clause-callable
block_wand-requires-in-DisjunctionMax-clause-callable g c =
    let tree = g.W.StandsFor.tree c.args.weight.now in
    let listed = listed_by c.args.joined.combiner _ tree c.args.boost c.args.reader.now.segment c.args.joined.terms.items c.in-DisjunctionMax.is c.requires.terms in
    MayPrune-at (InRange (goal.F-step g)) (goal.F-pre g) c.args.threshold _ c.args.callback.now _ (to_z-of_z w64 c.args.threshold c.ranges.threshold)
    (c.requires.allowed _ listed.list)

pub returns-in-Sum-clause-refused : goal.returns-in-Sum-clause-refused
returns-in-Sum-clause-refused g c =
    let terms = c.args.joined.terms.items in
    refused-together of_terms (g.W.StandsFor.tree c.args.weight.now) c.args.boost terms c.requires.terms.within c.block_wand.result c.block_wand.ensures.only
    (λ bound. omega (arith, c.block_wand.ensures.refused.0 bound, tops-members terms))

pub returns-in-DisjunctionMax-clause-refused : goal.returns-in-DisjunctionMax-clause-refused
returns-in-DisjunctionMax-clause-refused g c =
    let terms = c.args.joined.terms.items in
    refused-together of_terms (g.W.StandsFor.tree c.args.weight.now) c.args.boost terms c.requires.terms.within
    c.block_wand-in-DisjunctionMax.result c.block_wand-in-DisjunctionMax.ensures.only
    (λ bound. omega (arith, c.block_wand-in-DisjunctionMax.ensures.refused.0 bound, tops-members terms))

pub returns-in-Sum-clause-calls : goal.returns-in-Sum-clause-calls
returns-in-Sum-clause-calls g c =
    let tree = g.W.StandsFor.tree c.args.weight.now in
    let listed = listed_by c.args.joined.combiner _ tree c.args.boost c.args.reader.now.segment c.args.joined.terms.items c.in-Sum.is c.requires.terms in
    blocks-run (goal.F-step g) _ _ c.args.boost _ c.args.threshold _ _ _ c.block_wand.result listed.list c.ranges.threshold c.block_wand.ensures.run
    c.block_wand.ensures.scored

pub returns-in-DisjunctionMax-clause-calls : goal.returns-in-DisjunctionMax-clause-calls
returns-in-DisjunctionMax-clause-calls g c =
    let tree = g.W.StandsFor.tree c.args.weight.now in
    let listed = listed_by c.args.joined.combiner _ tree c.args.boost c.args.reader.now.segment c.args.joined.terms.items c.in-DisjunctionMax.is c.requires.terms in
    blocks-run (goal.F-step g) _ _ c.args.boost _ c.args.threshold _ _ _ c.block_wand-in-DisjunctionMax.result listed.list
    c.ranges.threshold c.block_wand-in-DisjunctionMax.ensures.run c.block_wand-in-DisjunctionMax.ensures.scored

pub unreachable-requires : goal.unreachable-requires
unreachable-requires g c =
    let kept = subst KeepsOneScore c.in-DoNothing.is c.requires.kept in
    omega (arith, kept 0)
