-- The union of the cursors is a scorer of the weight.
use Rattle.std.proofs.Common.{◌≡◌, ◌≤◌, arith, length, max}
use Rattle.qm_docset.specs.declared.numbers.TheConstants.{TERMINATED}
use Rattle.qm_combine.specs.Union.{ListsGathered}
use Rattle.qm_schema.specs.declared.occur.Occur.TheVariants.{Should}
use Rattle.qm_weight.specs.Scorers.{IsScorerOf}
use Rattle.qm_weight.specs.TermUnions.{clause_tree_in, clauses_in, trees_in}
use Rattle.qm_weight.specs.Weights.{clause_occur, terms_tree}
use Rattle.qm_weight.proofs.Leaves.{if_ok}
use Rattle.qm_weight.proofs.TermUnions.{all-alone, all-cursors, fitting-should, placed-cursors, refused-together, united}
use Rattle.qm_weight.proofs.terms_weight.term_union.union_of_terms.Goals as goal

pub build-requires : goal.build-requires
build-requires g c = record {
  placed = placed-cursors g.T.DocSet c.args.boost c.args.reader.now.segment (trees_in c.args.weight.now) c.in_ok-cursors.cursors.items
      c.in_ok-cursors.ensures.cursors;
}

pub returns-clause-scorer : goal.returns-clause-scorer
returns-clause-scorer g c =
    let w = c.args.weight.now in
    let segment = c.args.reader.now.segment in
    let cursors = c.in_ok-cursors.cursors.items in
    let few : length segment.documents ≤ TERMINATED = omega (arith, c.max_doc.ensures.number, c.max_doc.ensures.room) in
    let combined = g.C.ScoreCombiner.combined c.args.combiner in
    let needed : max w.rule.minimum_number_should_match 1 ≡ 1 = omega (arith, c.requires.terms.least) in
    let alone = all-alone clause_occur (clause_tree_in w) Should w.clauses.items c.requires.terms.should in
    let found = all-cursors clause_occur (clause_tree_in w) Should g.T.DocSet c.args.boost segment w.clauses.items cursors c.requires.terms.should
    c.in_ok-cursors.ensures.cursors in
    if_ok (ListsGathered _ g.T.DocSet 1 combined cursors) (IsScorerOf _ (terms_tree w) c.args.boost segment)
    (λ s made. united g.T.DocSet w.rule (clauses_in w) c.args.boost segment few alone 1 needed cursors found
    _ combined c.requires.combiner s made)
    c.build.result c.build.ensures.lists

pub returns-clause-refused : goal.returns-clause-refused
returns-clause-refused g c =
    let w = c.args.weight.now in
    let cursors = c.in_ok-cursors.cursors.items in
    let found = all-cursors clause_occur (clause_tree_in w) Should g.T.DocSet c.args.boost c.args.reader.now.segment w.clauses.items cursors
    c.requires.terms.should c.in_ok-cursors.ensures.cursors in
    refused-together g.T.DocSet (terms_tree w) c.args.boost cursors
    (fitting-should g.T.DocSet c.args.boost c.args.reader.now.segment w.rule (clauses_in w) cursors found)
    c.build.result c.build.ensures.only c.build.ensures.refused.0
