use Rattle.std.proofs.Common.{All, ◌≤◌, length}
use Rattle.qm_scorer.specs.Tree.{IsTree, IsTreePlaced}
use Rattle.cases.specs.contracts.leaf.LeafDocSet.TheImpl as leaf
use Rattle.cases_weights.proofs.tree.read_words.Given as goal

abbrev pub invariant-loop-at : goal.invariant-loop-at
invariant-loop-at l = record {
  end : l.end ≤ length l.words;
  valid : All (IsTree leaf.ghosts) l.trees.items;
  placed : All (IsTreePlaced leaf.ghosts) l.trees.items;
}
