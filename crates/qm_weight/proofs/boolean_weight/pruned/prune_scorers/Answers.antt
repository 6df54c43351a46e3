-- Where the scorers are of terms, what they list together is the list of the Boolean; else the run goes over the one
-- scorer that they make.
use Rattle.std.proofs.Common.{rules, ◌≡◌, ◌≤◌, Err, IfErr, ap, arith, length, subst, sum, sym, w64}
use Rattle.std.proofs.lemmas.Int.{to_z-of_z}
use Rattle.qm_docset.specs.declared.numbers.TheConstants.{TERMINATED}
use Rattle.qm_schema.specs.declared.occur.Occur.TheVariants.{Should, Must, MustNot}
use Rattle.qm_scorer.specs.AnyCombiner.{any_combined}
use Rattle.qm_term.specs.Runs.{InRange}
use Rattle.qm_weight.specs.Scorers.{IsRefusalOf}
use Rattle.qm_weight.specs.TermRows.{IsOfAllTerms, IsOfTerms}
use Rattle.qm_weight.specs.TermUnions.{ListTogether}
use Rattle.qm_weight.specs.Weights.{boolean_tree, clauses_from}
use Rattle.qm_weight.proofs.ClauseSteps.{placed-of}
use Rattle.qm_weight.proofs.RunSteps.{MayPrune-at, MayPruneTree-from, PrunesTree-from, tree-run}
use Rattle.qm_weight.proofs.TermRows.{all_terms-together, terms-together}
use Rattle.qm_weight.proofs.TermRuns.{of_terms}
use Rattle.qm_weight.proofs.boolean_weight.pruned.prune_scorers.Goals as goal

pub prune_over_all-requires-clause-some : goal.prune_over_all-requires-clause-some
prune_over_all-requires-clause-some g c =
    let seen : IsOfAllTerms c.args.weight.now.rule c.args.scorers = search rules in
    omega (arith, seen.some, seen.present, ap length c.in_ok-all.ensures.terms)

pub prune_over_all-requires-clause-terms : goal.prune_over_all-requires-clause-terms
prune_over_all-requires-clause-terms g c =
    let w = c.args.weight.now in
    let segment = c.args.reader.now.segment in
    let few : length segment.documents ≤ TERMINATED = omega (arith, c.max_doc-documents.ensures.number, c.max_doc-documents.ensures.room) in
    let seen : IsOfAllTerms w.rule c.args.scorers = search rules in
    subst (λ ss. ListTogether of_terms (length ss) sum (boolean_tree w) c.args.boost segment ss)
    (sym c.in_ok-all.ensures.terms) (all_terms-together g.S.DocSet w c.args.boost segment few c.args.scorers c.requires.rows seen)

pub prune_over_all-requires-clause-allowed : goal.prune_over_all-requires-clause-allowed
prune_over_all-requires-clause-allowed g c =
    let tree = boolean_tree c.args.weight.now in
    MayPruneTree-from (goal.F-step g) (goal.F-pre g) tree tree c.args.boost c.args.boost c.args.reader.now.segment
    c.args.threshold c.args.callback.now c.ranges.threshold (λ es listed. listed) c.requires.allowed

pub returns-then-is_of_all_terms-clause-calls : goal.returns-then-is_of_all_terms-clause-calls
returns-then-is_of_all_terms-clause-calls g c =
    let tree = boolean_tree c.args.weight.now in
    PrunesTree-from (goal.F-step g) tree tree c.args.boost c.args.boost c.args.reader.now.segment c.args.threshold _ _
    c.prune_over_all.result c.ranges.threshold (λ es listed. listed) c.prune_over_all.ensures.calls

pub prune_by_blocks-requires-clause-kept : goal.prune_by_blocks-requires-clause-kept
prune_by_blocks-requires-clause-kept g c =
    let seen : IsOfTerms c.args.weight.now.rule c.args.scorers = search rules in
    seen.kept

pub prune_by_blocks-requires-clause-terms : goal.prune_by_blocks-requires-clause-terms
prune_by_blocks-requires-clause-terms g c =
    let w = c.args.weight.now in
    let segment = c.args.reader.now.segment in
    let few : length segment.documents ≤ TERMINATED = omega (arith, c.max_doc-documents.ensures.number, c.max_doc-documents.ensures.room) in
    let seen : IsOfTerms w.rule c.args.scorers = search rules in
    subst (ListTogether of_terms 1 (any_combined w.rule.score_combiner) (boolean_tree w) c.args.boost segment)
    (sym c.in_ok-terms.ensures.terms) (terms-together g.S.DocSet w c.args.boost segment few c.args.scorers c.requires.rows seen)

pub prune_by_blocks-requires-clause-allowed : goal.prune_by_blocks-requires-clause-allowed
prune_by_blocks-requires-clause-allowed g c =
    let tree = boolean_tree c.args.weight.now in
    MayPruneTree-from (goal.F-step g) (goal.F-pre g) tree tree c.args.boost c.args.boost c.args.reader.now.segment
    c.args.threshold c.args.callback.now c.ranges.threshold (λ es listed. listed) c.requires.allowed

pub returns-then-is_of_terms-clause-calls : goal.returns-then-is_of_terms-clause-calls
returns-then-is_of_terms-clause-calls g c =
    let tree = boolean_tree c.args.weight.now in
    PrunesTree-from (goal.F-step g) tree tree c.args.boost c.args.boost c.args.reader.now.segment c.args.threshold _ _
    c.prune_by_blocks.result c.ranges.threshold (λ es listed. listed) c.prune_by_blocks.ensures.calls

pub join_clauses-requires-clause-must : goal.join_clauses-requires-clause-must
join_clauses-requires-clause-must g c =
    placed-of _ c.args.boost c.args.reader.now.segment _ c.args.scorers.must.items (c.requires.rows Must)

pub join_clauses-requires-clause-should : goal.join_clauses-requires-clause-should
join_clauses-requires-clause-should g c =
    placed-of _ c.args.boost c.args.reader.now.segment _ c.args.scorers.should.items (c.requires.rows Should)

pub join_clauses-requires-clause-must_not : goal.join_clauses-requires-clause-must_not
join_clauses-requires-clause-must_not g c =
    placed-of _ c.args.boost c.args.reader.now.segment _ c.args.scorers.must_not.items (c.requires.rows MustNot)

pub returns-in_err-scorer-clause-refused :
    goal.returns-in_err-scorer-clause-refused
returns-in_err-scorer-clause-refused g c =
    let w = c.args.weight.now in
    let e = c.in_err-scorer.field-0.0 in
    let is : c.from_residual-in_err-scorer.result ≡ Err e = search rules in
    subst (λ r. IfErr r (IsRefusalOf (boolean_tree w) c.args.boost)) (sym is)
    (c.in_err-scorer.ensures.refused (clauses_from w.weights.items) c.args.boost c.requires.rows)

pub prune_scorer-requires-clause-placed : goal.prune_scorer-requires-clause-placed
prune_scorer-requires-clause-placed g c =
    (c.in_ok-scorer.ensures.scorer (clauses_from c.args.weight.now.weights.items) c.args.boost c.requires.rows).placed

pub prune_scorer-requires-clause-allowed : goal.prune_scorer-requires-clause-allowed
prune_scorer-requires-clause-allowed g c =
    let w = c.args.weight.now in
    let clauses = clauses_from w.weights.items in
    let made = c.in_ok-scorer.ensures.scorer clauses c.args.boost c.requires.rows in
    MayPrune-at (InRange (goal.F-step g)) (goal.F-pre g) c.args.threshold _ c.args.callback.now _
    (to_z-of_z w64 c.args.threshold c.ranges.threshold) (c.requires.allowed _ made.list)

pub returns-clause-calls :
    goal.returns-clause-calls
returns-clause-calls g c =
    let w = c.args.weight.now in
    let clauses = clauses_from w.weights.items in
    let made = c.in_ok-scorer.ensures.scorer clauses c.args.boost c.requires.rows in
    tree-run (goal.F-step g) (boolean_tree w) c.args.boost _ c.args.threshold _ _ _ _ made.list c.ranges.threshold c.prune_scorer.ensures.calls
