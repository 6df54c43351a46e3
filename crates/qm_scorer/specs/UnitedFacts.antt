-- A union of trees is one over a window.
use Rattle.std.proofs.Math.Nat.{le_refl}
use Rattle.qm_docset.specs.Entry.{AreEntries}
use Rattle.qm_docset.specs.GatherFacts.{AreMembers-map}
use Rattle.qm_docset.specs.declared.docset.DocSet.{Ghosts}
use Rattle.qm_combine.specs.United.{IsGoing}
use Rattle.qm_scorer.specs.AnyCombiner.{any_combined, any_value}
use Rattle.qm_scorer.specs.Tree.{tree_entries, tree_limits}
use Rattle.qm_scorer.specs.TreeFacts.{tree-ascends}
use Rattle.qm_scorer.specs.United.{IsUnionNode, union_shown}
use Rattle.qm_scorer.specs.declared.union_node.UnionNode.{UnionNode}

-- it stands on its first document, and what its members have left are lists of cursors
pub union-going : {S : Type 0} (D : Ghosts S) → ((s : S) → D.valid s → AreEntries 0 (D.limits s) (D.entries s)) →
    (node : UnionNode S) → IsUnionNode D node → IsGoing any_combined any_value (union_shown D node)
union-going D law node h = record {
  until = h.own.parts.until;
  some = le_refl 1;
  standing = h.own.standing;
  members = AreMembers-map (tree_limits D) (tree_entries D) node.members.items (λ k d inside. tree-ascends D law _ (h.members.valid k d inside));
}
