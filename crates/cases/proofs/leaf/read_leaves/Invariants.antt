use Rattle.std.proofs.Common.{All, IsTrue}
use Rattle.qm_docset.specs.VecDocSet.{IsVecCursor}
use Rattle.cases.proofs.leaf.read_leaves.Given as goal

abbrev pub invariant-loop-part : goal.invariant-loop-part
invariant-loop-part l = record {
  valid : All (λ leaf. IsVecCursor leaf.docs) l.leaves.items;
  placed : All (λ leaf. IsTrue leaf.standing) l.leaves.items;
}
