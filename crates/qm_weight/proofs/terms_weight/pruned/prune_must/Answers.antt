-- Where each term is there, what all of them have is the list of the clauses, and else that is empty.
use Rattle.std.proofs.Common.{rules, ◌≡◌, ℕ, ◌<◌, ◌≤◌, ◌∙◌, All, List, [], Err, IfErr, ap, arith, length, subst, sum, sym}
use Rattle.std.proofs.lemmas.List.{length-map}
use Rattle.qm_combine.specs.Union.{total_top}
use Rattle.qm_docset.specs.Entry.{greatest_score}
use Rattle.qm_docset.specs.Lists.{bounds}
use Rattle.qm_docset.specs.declared.numbers.TheConstants.{TERMINATED}
use Rattle.qm_postings.specs.Segment.{Segment}
use Rattle.qm_schema.specs.declared.occur.Occur.TheVariants.{Must}
use Rattle.qm_term.specs.TermScorer.{IsTermScorer}
use Rattle.qm_term.specs.declared.norms.Norms.{Ghosts as NormGhosts}
use Rattle.qm_term.specs.declared.term_scorer.TermScorer.{TermScorer}
use Rattle.qm_weight.specs.ClauseScorers.{clause_trees}
use Rattle.qm_weight.specs.Scorers.{IsListOf, IsRefusalOf}
use Rattle.qm_weight.specs.TermUnions.{AreAll, AreTreeCursors, ListTogether, clause_tree_in, clauses_in, trees_in}
use Rattle.qm_weight.specs.Tree.{Fits}
use Rattle.qm_weight.specs.Weights.{clause_occur, terms_tree}
use Rattle.qm_weight.specs.declared.terms_weight.TermsWeight.{TermsWeight}
use Rattle.qm_weight.proofs.RunSteps.{MayPruneTree-from, PrunesTree-from, run-none}
use Rattle.qm_weight.proofs.TermRuns.{of_terms}
use Rattle.qm_weight.proofs.TermUnions.{AreAlone, all-alone, all-cursors, all-together, all-trees, fitting-must, list-missing, placed-cursors}
use Rattle.qm_weight.proofs.terms_weight.pruned.prune_must.Goals as goal

module _ {N : Type 0} {G : NormGhosts N} (w : TermsWeight) (b : ℕ) (segment : Segment) (must : AreAll Must w.clauses.items)
    (terms : List (TermScorer N G)) (cursors : AreTreeCursors of_terms (trees_in w) b segment terms) where
  many : length (clause_trees (clauses_in w) Must) ≡ length w.clauses.items
  many = ap length (all-trees clause_occur (clause_tree_in w) Must w.clauses.items must) ∙ length-map w.clauses.items (clause_tree_in w)

  alone : AreAlone Must (clauses_in w)
  alone = all-alone clause_occur (clause_tree_in w) Must w.clauses.items must

  found : AreTreeCursors of_terms (clause_trees (clauses_in w) Must) b segment terms
  found = all-cursors clause_occur (clause_tree_in w) Must of_terms b segment w.clauses.items terms must cursors

  valid : All IsTermScorer terms
  valid = (placed-cursors of_terms b segment (trees_in w) terms cursors).valid

  fitting : Fits (terms_tree w) b → total_top (bounds of_terms terms) ≤ greatest_score
  fitting = fitting-must of_terms b segment w.rule (clauses_in w) terms found

  all_there : length segment.documents ≤ TERMINATED → w.rule.minimum_number_should_match ≡ 0 → 1 ≤ length w.clauses.items →
      length w.clauses.items ≤ length terms → ListTogether of_terms (length terms) sum (terms_tree w) b segment terms
  all_there few least some there =
      all-together of_terms w.rule (clauses_in w) b segment few alone terms found least (omega (arith, there, some)) (omega (arith, there, many))

  one_missing : length segment.documents ≤ TERMINATED → length terms < length w.clauses.items → IsListOf (terms_tree w) b segment []
  one_missing few less = list-missing of_terms w.rule (clauses_in w) b segment few alone terms found (omega (arith, less, many))

pub check_bounds-requires : goal.check_bounds-requires
check_bounds-requires g c = record {
  valid = subst (All IsTermScorer) (sym c.deref.ensures.value)
      (valid c.args.weight.now c.args.boost c.args.reader.now.segment c.requires.must c.in_ok-terms.terms.items c.in_ok-terms.ensures.cursors);
}

pub returns-in_err-check_bounds-clause-refused : goal.returns-in_err-check_bounds-clause-refused
returns-in_err-check_bounds-clause-refused g c =
    let w = c.args.weight.now in
    let b = c.args.boost in
    let terms = c.in_ok-terms.terms.items in
    let e = c.in_err-check_bounds.field-0.0 in
    let is : c.from_residual-in_err-check_bounds.result ≡ Err e = search rules in
    let only = c.in_err-check_bounds.ensures.only in
    let past = subst (λ l. greatest_score < total_top (bounds of_terms l)) c.deref.ensures.value (c.in_err-check_bounds.ensures.refused.0 (ap Err only)) in
    subst (λ r. IfErr r (IsRefusalOf (terms_tree w) b)) (sym is) (subst (IsRefusalOf (terms_tree w) b) (sym only)
    (λ fits. absurd (omega (arith, past, fitting w b c.args.reader.now.segment c.requires.must terms c.in_ok-terms.ensures.cursors fits))))

pub returns-then-len-clause-calls : goal.returns-then-len-clause-calls
returns-then-len-clause-calls g c =
    let w = c.args.weight.now in
    let segment = c.args.reader.now.segment in
    let terms = c.in_ok-terms.terms.items in
    let few : length segment.documents ≤ TERMINATED = omega (arith, c.max_doc-documents.ensures.number, c.max_doc-documents.ensures.room) in
    let less : length terms < length w.clauses.items = search rules in
    record {
      entries = [];
      listed = one_missing w c.args.boost segment c.requires.must terms c.in_ok-terms.ensures.cursors few less;
      run = run-none (goal.F-step g) c.args.threshold c.args.callback.now c.counted_none.result c.counted_none.ensures;
    }

pub prune_over_all-requires-clause-terms : goal.prune_over_all-requires-clause-terms
prune_over_all-requires-clause-terms g c =
    let w = c.args.weight.now in
    let segment = c.args.reader.now.segment in
    let terms = c.in_ok-terms.terms.items in
    let few : length segment.documents ≤ TERMINATED = omega (arith, c.max_doc-documents.ensures.number, c.max_doc-documents.ensures.room) in
    let there : length w.clauses.items ≤ length terms = search rules in
    all_there w c.args.boost segment c.requires.must terms c.in_ok-terms.ensures.cursors few c.requires.least c.requires.some there

pub prune_over_all-requires-clause-allowed : goal.prune_over_all-requires-clause-allowed
prune_over_all-requires-clause-allowed g c =
    let tree = terms_tree c.args.weight.now in
    MayPruneTree-from (goal.F-step g) (goal.F-pre g) tree tree c.args.boost c.args.boost c.args.reader.now.segment
    c.args.threshold c.args.callback.now c.ranges.threshold (λ es listed. listed) c.requires.allowed

pub returns-clause-calls : goal.returns-clause-calls
returns-clause-calls g c =
    let tree = terms_tree c.args.weight.now in
    PrunesTree-from (goal.F-step g) tree tree c.args.boost c.args.boost c.args.reader.now.segment c.args.threshold _ _
    c.prune_over_all.result c.ranges.threshold (λ es listed. listed) c.prune_over_all.ensures.calls
