use Rattle.std.proofs.Common.{◌≡◌, ◌-◌, ◌+◌, ◌<◌, ◌≤◌, ℕ, All, get_or, length, map, min, take, fold, sum}
use denote.Param.Weighed.{most}
use Rattle.qm_docset.specs.Entry.{from, head_document, greatest_score, head_score}
use Rattle.qm_combine.specs.Union.{least_head}
use Rattle.qm_scorer.specs.Group.{AreStanding, group_entries, group_lists}
use Rattle.qm_scorer.specs.Intersection.{common_list, other_lists}
use Rattle.qm_scorer.specs.Tree.{AreMemberHeads, HasRoom, IsTree, IsTreePlaced, kept_entries, tree_entries, tree_limits, tree_top}
use Rattle.qm_scorer.specs.declared.any_scorer.AnyScorer.{size-AnyScorer}
use Rattle.qm_scorer.specs.declared.exclude_node.ExcludeNode.{size-ExcludeNode}
use Rattle.qm_scorer.specs.declared.group_node.GroupNode.{size-GroupNode}
use Rattle.qm_scorer.specs.declared.intersection_node.IntersectionNode.{size-IntersectionNode}
use Rattle.qm_combine.specs.Window.{window_combiner}
use Rattle.qm_scorer.specs.TreeFacts.{tree-ascends}
use Rattle.qm_scorer.specs.United.{union_limits, union_lists}
use Rattle.qm_scorer.specs.declared.union_node.UnionNode.{size-UnionNode}
use Rattle.qm_scorer.proofs.Refilling.{IsRefilling}
use Rattle.qm_scorer.proofs.Taking.{IsTakenTo}
use Rattle.qm_docset.specs.Gather.{scores_at}
use Rattle.qm_scorer.specs.AnyCombiner.{any_cleared, any_step}
use Rattle.qm_scorer.proofs.+moves.Given as goal

abbrev pub invariant-exclude_node::pass_excluded-loop-doc : goal.invariant-exclude_node::pass_excluded-loop-doc
invariant-exclude_node::pass_excluded-loop-doc g l = record {
  here : l.doc ≡ head_document (tree_entries g.S.DocSet l.node.inner);
  left : kept_entries g.S.DocSet l.node.inner l.node.out ≡ kept_entries g.S.DocSet l.fn.node.inner l.fn.node.out;
  inner : IsTree g.S.DocSet l.node.inner;
  placed : IsTreePlaced g.S.DocSet l.node.inner;
  out : IsTree g.S.DocSet l.node.out;
  top : l.node.top ≡ l.fn.node.top;
  depth : size-ExcludeNode _ l.node ≤ size-ExcludeNode _ l.fn.node;
}

abbrev pub decreases-exclude_node::pass_excluded-loop-doc : goal.decreases-exclude_node::pass_excluded-loop-doc
decreases-exclude_node::pass_excluded-loop-doc g l = 2147483647 - l.doc

abbrev pub invariant-group_node::reach_members-loop-place : goal.invariant-group_node::reach_members-loop-place
invariant-group_node::reach_members-loop-place g l = record {
  members : AreStanding g.S.DocSet l.node;
  lists : map (from l.target) (group_lists g.S.DocSet l.node) ≡ map (from l.target) (group_lists g.S.DocSet l.fn.node);
  within : l.place ≤ length l.node.members.items;
  passed : (k : ℕ) → k < l.place → l.target ≤ get_or l.node.heads.docs.items k 0;
  shape : l.node.shape ≡ l.fn.node.shape;
  current : l.node.current ≡ l.fn.node.current;
  depth : size-GroupNode _ l.node ≤ size-GroupNode _ l.fn.node;
}

abbrev pub decreases-group_node::reach_members-loop-place : goal.decreases-group_node::reach_members-loop-place
decreases-group_node::reach_members-loop-place g l = length l.node.members.items - l.place

abbrev pub invariant-group_node::next_match-loop-doc : goal.invariant-group_node::next_match-loop-doc
invariant-group_node::next_match-loop-doc g l = record {
  least : l.doc ≡ least_head (group_lists g.S.DocSet l.node);
  entries : group_entries g.S.DocSet l.node ≡ from l.target (group_entries g.S.DocSet l.fn.node);
  members : AreStanding g.S.DocSet l.node;
  room : HasRoom l.node.shape.combiner (group_lists g.S.DocSet l.node);
  shape : l.node.shape ≡ l.fn.node.shape;
  depth : size-GroupNode _ l.node ≤ size-GroupNode _ l.fn.node;
}

abbrev pub decreases-group_node::next_match-loop-doc : goal.decreases-group_node::next_match-loop-doc
decreases-group_node::next_match-loop-doc g l = 2147483647 - l.doc

abbrev pub invariant-intersection_node::danger_others-loop-i : goal.invariant-intersection_node::danger_others-loop-i
invariant-intersection_node::danger_others-loop-i g l = record {
  valid : All (IsTree g.S.DocSet) l.others;
  lists : map (from l.target) (map (tree_entries g.S.DocSet) l.others) ≡ map (from l.target) (other_lists g.S.DocSet l.fn.node);
  found : All (λ x. IsTreePlaced g.S.DocSet x × (head_document (tree_entries g.S.DocSet x) ≡ l.target)) (take l.i l.others);
  depth : most (size-AnyScorer _) l.others ≤ most (size-AnyScorer _) l.fn.node.others.items;
}

abbrev pub invariant-intersection_node::align-loop-candidate : goal.invariant-intersection_node::align-loop-candidate
invariant-intersection_node::align-loop-candidate g l = record {
  here : l.candidate ≡ head_document (tree_entries g.S.DocSet l.node.leader);
  placed : IsTreePlaced g.S.DocSet l.node.leader;
  leader : IsTree g.S.DocSet l.node.leader;
  others : All (IsTree g.S.DocSet) l.node.others.items;
  entries : common_list g.S.DocSet l.node ≡ common_list g.S.DocSet l.fn.node;
  top : l.node.top ≡ l.fn.node.top;
  depth : size-IntersectionNode _ l.node ≤ size-IntersectionNode _ l.fn.node;
}

abbrev pub decreases-intersection_node::align-loop-candidate : goal.decreases-intersection_node::align-loop-candidate
decreases-intersection_node::align-loop-candidate g l = 2147483647 - l.candidate

abbrev pub invariant-union_node::take_by_steps-loop-doc : goal.invariant-union_node::take_by_steps-loop-doc
invariant-union_node::take_by_steps-loop-doc g l = record {
  here : l.doc ≡ head_document (tree_entries g.S.DocSet l.member);
  left : tree_entries g.S.DocSet l.member ≡ from (min l.doc l.bound) (tree_entries g.S.DocSet l.fn.member);
  top : tree_top g.S.DocSet l.member ≡ tree_top g.S.DocSet l.fn.member;
  valid : IsTree g.S.DocSet l.member;
  placed : IsTreePlaced g.S.DocSet l.member;
  low : l.fn.window.start ≤ l.doc;
  taken : IsTakenTo l.fn.window l.window l.doc (tree_entries g.S.DocSet l.fn.member);
  depth : size-AnyScorer _ l.member ≤ size-AnyScorer _ l.fn.member;
}

abbrev pub decreases-union_node::take_by_steps-loop-doc : goal.decreases-union_node::take_by_steps-loop-doc
decreases-union_node::take_by_steps-loop-doc g l = 2147483647 - l.doc

abbrev pub invariant-union_node::refill-loop-i : goal.invariant-union_node::refill-loop-i
invariant-union_node::refill-loop-i g l = record {
  unvisited : goal.unvisited-union_node::refill-loop-i g l;
  refilling : IsRefilling (tree_entries g.S.DocSet) (tree_limits g.S.DocSet) (IsTree g.S.DocSet) (IsTreePlaced g.S.DocSet)
      (tree-ascends g.S.DocSet g.met.S.DocSet.ascending) l.fn.node.members.items (window_combiner l.fn.node.window) l.fn.node.doc
      (l.fn.node.doc + l.span) l.node.members.items l.i l.least l.node.window;
  doc : l.node.doc ≡ l.fn.node.doc;
  top : l.node.top ≡ l.fn.node.top;
  depth : size-UnionNode _ l.node ≤ size-UnionNode _ l.fn.node;
}

abbrev pub invariant-union_node::reach_each-loop-i : goal.invariant-union_node::reach_each-loop-i
invariant-union_node::reach_each-loop-i g l = record {
  unvisited : goal.unvisited-union_node::reach_each-loop-i g l;
  valid : All (IsTree g.S.DocSet) l.node.members.items;
  placed : All (IsTreePlaced g.S.DocSet) l.node.members.items;
  lists : map (from l.target) (union_lists g.S.DocSet l.node) ≡ map (from l.target) (union_lists g.S.DocSet l.fn.node);
  limits : union_limits g.S.DocSet l.node ≡ union_limits g.S.DocSet l.fn.node;
  reached : All (λ x. l.target ≤ head_document (tree_entries g.S.DocSet x)) (take l.i l.node.members.items);
  least : l.least ≡ least_head (take l.i (union_lists g.S.DocSet l.node));
  window : l.node.window ≡ l.fn.node.window;
  top : l.node.top ≡ l.fn.node.top;
  depth : size-UnionNode _ l.node ≤ size-UnionNode _ l.fn.node;
}

-- ---- scores

abbrev pub invariant-group_node::score_group-loop-place : goal.invariant-group_node::score_group-loop-place
invariant-group_node::score_group-loop-place g l = record {
  valid : All (IsTree g.S.DocSet) l.node.members.items;
  placed : All (IsTreePlaced g.S.DocSet) l.node.members.items;
  heads : AreMemberHeads l.node.heads (group_lists g.S.DocSet l.node);
  lists : group_lists g.S.DocSet l.node ≡ group_lists g.S.DocSet l.fn.node;
  within : l.place ≤ length l.node.members.items;
  here : l.place < length l.node.members.items → get_or l.node.heads.docs.items l.place 0 < l.fn.node.current + 1;
  combined : l.combiner ≡ fold any_step (any_cleared l.fn.node.shape.combiner) (scores_at l.fn.node.current (take l.place (group_lists g.S.DocSet l.node)));
  shape : l.node.shape ≡ l.fn.node.shape;
  current : l.node.current ≡ l.fn.node.current;
  depth : size-GroupNode _ l.node ≤ size-GroupNode _ l.fn.node;
}

abbrev pub decreases-group_node::score_group-loop-place : goal.decreases-group_node::score_group-loop-place
decreases-group_node::score_group-loop-place g l = length l.node.members.items - l.place

abbrev pub invariant-intersection_node::score_intersection-loop-i : goal.invariant-intersection_node::score_intersection-loop-i
invariant-intersection_node::score_intersection-loop-i g l = record {
  valid : All (IsTree g.S.DocSet) l.others;
  placed : All (IsTreePlaced g.S.DocSet) l.others;
  lists : map (tree_entries g.S.DocSet) l.others ≡ other_lists g.S.DocSet l.fn.node;
  summed : l.sum ≡ min greatest_score (head_score (tree_entries g.S.DocSet l.fn.node.leader) + sum
      (take l.i (map head_score (map (tree_entries g.S.DocSet) l.others))));
  depth : most (size-AnyScorer _) l.others ≤ most (size-AnyScorer _) l.fn.node.others.items;
}
