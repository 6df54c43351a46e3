-- The leaves of a tree, whose calls are those of their own cursors.
use Rattle.std.specs.Prelude.{◌≡◌}
use Rattle.std.specs.declared.boxed.Box.{Box}
use Rattle.qm_scorer.specs.declared.any_scorer.AnyScorer.{AnyScorer}
use Rattle.qm_scorer.specs.declared.any_scorer.AnyScorer.TheVariants.{Boost, Const, Disjunction, Exclude, Intersection, RequiredOptional, Union}
use Rattle.qm_scorer.specs.declared.boost_node.BoostNode.{BoostNode}
use Rattle.qm_scorer.specs.declared.const_node.ConstNode.{ConstNode}
use Rattle.qm_scorer.specs.declared.exclude_node.ExcludeNode.{ExcludeNode}
use Rattle.qm_scorer.specs.declared.group_node.GroupNode.{GroupNode}
use Rattle.qm_scorer.specs.declared.intersection_node.IntersectionNode.{IntersectionNode}
use Rattle.qm_scorer.specs.declared.optional_node.OptionalNode.{OptionalNode}
use Rattle.qm_scorer.specs.declared.union_node.UnionNode.{UnionNode}

-- a tree that is no node, so a leaf
pub record IsLeaf {S : Type 0} (tree : AnyScorer S) : Type 0 where
  pub boost : (node : Box (BoostNode S) _) → tree ≡ Boost node → ⊥
  pub constant : (node : Box (ConstNode S) _) → tree ≡ Const node → ⊥
  pub optional : (node : Box (OptionalNode S) _) → tree ≡ RequiredOptional node → ⊥
  pub exclude : (node : Box (ExcludeNode S) _) → tree ≡ Exclude node → ⊥
  pub union : (node : Box (UnionNode S) _) → tree ≡ Union node → ⊥
  pub disjunction : (node : Box (GroupNode S) _) → tree ≡ Disjunction node → ⊥
  pub intersection : (node : Box (IntersectionNode S) _) → tree ≡ Intersection node → ⊥
