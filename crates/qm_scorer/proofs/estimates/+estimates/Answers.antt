-- The members of a group or a union are cursors, and smaller than it.
use Rattle.std.proofs.Common.{rules, All, sym, subst}
use Rattle.qm_combine.specs.Window.{IsUntil}
use Rattle.qm_scorer.specs.Tree.{IsTree}
use Rattle.qm_scorer.specs.declared.any_scorer.AnyScorer as aq
use Rattle.qm_scorer.specs.declared.group_node.GroupNode.{GroupNode}
use Rattle.qm_scorer.specs.declared.union_node.UnionNode.{UnionNode}
use Rattle.qm_scorer.proofs.Opened.{opened-Disjunction, opened-Union}
use Rattle.qm_scorer.proofs.estimates.+estimates.Goals as goal

pub estimate_tree-estimate_union-requires : goal.estimate_tree-estimate_union-requires
estimate_tree-estimate_union-requires g t c κs within =
    let D = g.S.DocSet in
    let opened = opened-Union D c.in-Union.node (subst (IsTree D) c.in-Union.is c.requires.valid) in
    let members = subst (λ (n : UnionNode g.row.S.Denot). All (IsTree D) n.members.items) (sym c.deref-in-Union.ensures) opened.members.valid in
    let until = subst (λ (n : UnionNode g.row.S.Denot). IsUntil n.window) (sym c.deref-in-Union.ensures) opened.own.parts.until in
    (search (rules, aq.the_lemmas), (search rules, (members, until)))

pub estimate_tree-estimate_group-requires : goal.estimate_tree-estimate_group-requires
estimate_tree-estimate_group-requires g t c κs within =
    let D = g.S.DocSet in
    let opened = opened-Disjunction D c.in-Disjunction.node (subst (IsTree D) c.in-Disjunction.is c.requires.valid) in
    let members = subst (λ (n : GroupNode g.row.S.Denot). All (IsTree D) n.members.items) (sym c.deref-in-Disjunction.ensures) opened.members.valid in
    (search (rules, aq.the_lemmas), (search rules, members))
