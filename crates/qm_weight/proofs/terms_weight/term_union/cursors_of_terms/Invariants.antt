use Rattle.std.proofs.Common.{map, take}
use Rattle.qm_weight.specs.TermUnions.{AreTreeCursors, clause_tree_in}
use Rattle.qm_weight.proofs.terms_weight.term_union.cursors_of_terms.Given as goal

abbrev pub invariant-loop-clause : goal.invariant-loop-clause
invariant-loop-clause g l = AreTreeCursors g.T.DocSet
    (map (clause_tree_in l.weight) (take l.clause-index l.weight.clauses.items)) l.boost l.reader.segment l.cursors.items
