use Rattle.std.proofs.Common.{All}
use Rattle.qm_scorer.specs.Tree.{IsTree, IsTreePlaced}
use Rattle.cases.specs.contracts.leaf.LeafDocSet.TheImpl as leaf
use Rattle.cases_weights.proofs.tree.take_many.Given as goal

abbrev pub invariant-loop : goal.invariant-loop
invariant-loop l = record {
  left_valid : All (IsTree leaf.ghosts) l.trees.items;
  left_placed : All (IsTreePlaced leaf.ghosts) l.trees.items;
  valid : All (IsTree leaf.ghosts) l.members.items;
  placed : All (IsTreePlaced leaf.ghosts) l.members.items;
}
