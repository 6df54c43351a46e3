use Rattle.std.proofs.Common.{◌≡◌, map, take}
use Rattle.qm_docset.specs.Entry.{head_document}
use Rattle.qm_scorer.specs.Tree.{tree_entries}
use Rattle.qm_scorer.proofs.group_builders.heads_of.Given as goal

abbrev pub invariant-loop-member : goal.invariant-loop-member
invariant-loop-member g l = l.docs.items ≡ take l.member-index (map head_document (map (tree_entries g.S.DocSet) l.members))
