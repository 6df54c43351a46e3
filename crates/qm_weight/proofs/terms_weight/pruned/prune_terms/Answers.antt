-- Where the clauses are terms the run is that over these; else it goes over the Boolean's scorer.
use Rattle.std.proofs.Common.{rules, ◌≤◌, arith, length, w64}
use Rattle.std.proofs.lemmas.Int.{to_z-of_z}
use Rattle.qm_docset.specs.declared.numbers.TheConstants.{TERMINATED}
use Rattle.qm_schema.specs.declared.occur.Occur.TheVariants.{Should}
use Rattle.qm_term.specs.Runs.{InRange}
use Rattle.qm_weight.specs.TermUnions.{AreAll, clause_tree_in, clauses_in}
use Rattle.qm_weight.specs.Weights.{clause_occur, terms_tree}
use Rattle.qm_weight.proofs.RunSteps.{MayPrune-at, MayPruneTree-from, PrunesTree-from, tree-run}
use Rattle.qm_weight.proofs.TermRuns.{of_terms}
use Rattle.qm_weight.proofs.TermUnions.{all-alone, all-cursors, together}
use Rattle.qm_weight.proofs.terms_weight.pruned.prune_terms.Goals as goal

pub prune_must-requires-clause-allowed : goal.prune_must-requires-clause-allowed
prune_must-requires-clause-allowed g c =
    let tree = terms_tree c.args.weight.now in
    MayPruneTree-from (goal.F-step g) (goal.F-pre g) tree tree c.args.boost c.args.boost c.args.reader.now.segment
    c.args.threshold c.args.callback.now c.ranges.threshold (λ es listed. listed) c.requires.allowed

pub prune_by_blocks-requires-clause-terms : goal.prune_by_blocks-requires-clause-terms
prune_by_blocks-requires-clause-terms g c =
    let w = c.args.weight.now in
    let segment = c.args.reader.now.segment in
    let few : length segment.documents ≤ TERMINATED = omega (arith, c.max_doc-documents.ensures.number, c.max_doc-documents.ensures.room) in
    let least : w.rule.minimum_number_should_match ≤ 1 = search rules in
    let should : AreAll Should w.clauses.items = search rules in
    let terms = c.in_ok-terms.terms.items in
    together of_terms w.rule (clauses_in w) c.args.boost segment few (all-alone clause_occur (clause_tree_in w) Should w.clauses.items should) 1
    (omega (arith, least)) terms
    (all-cursors clause_occur (clause_tree_in w) Should of_terms c.args.boost segment w.clauses.items terms should c.in_ok-terms.ensures.cursors)

pub prune_by_blocks-requires-clause-allowed : goal.prune_by_blocks-requires-clause-allowed
prune_by_blocks-requires-clause-allowed g c =
    let tree = terms_tree c.args.weight.now in
    MayPruneTree-from (goal.F-step g) (goal.F-pre g) tree tree c.args.boost c.args.boost c.args.reader.now.segment
    c.args.threshold c.args.callback.now c.ranges.threshold (λ es listed. listed) c.requires.allowed

pub returns-then-are_all-2-clause-calls : goal.returns-then-are_all-2-clause-calls
returns-then-are_all-2-clause-calls g c =
    let tree = terms_tree c.args.weight.now in
    PrunesTree-from (goal.F-step g) tree tree c.args.boost c.args.boost c.args.reader.now.segment c.args.threshold _ _
    c.prune_by_blocks.result c.ranges.threshold (λ es listed. listed) c.prune_by_blocks.ensures.calls

pub prune_borrowed-requires-clause-allowed : goal.prune_borrowed-requires-clause-allowed
prune_borrowed-requires-clause-allowed g c =
    MayPrune-at (InRange (goal.F-step g)) (goal.F-pre g) c.args.threshold _ c.args.callback.now _
    (to_z-of_z w64 c.args.threshold c.ranges.threshold)
    (c.requires.allowed _ c.in_ok-scorer.ensures.scorer.list)

pub returns-clause-calls :
    goal.returns-clause-calls
returns-clause-calls g c =
    tree-run (goal.F-step g) _ c.args.boost _ c.args.threshold _ _ _ _ c.in_ok-scorer.ensures.scorer.list
    c.ranges.threshold c.prune_borrowed.ensures.calls
