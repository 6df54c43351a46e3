-- The window has the document, so that nothing is lost from there on.
use Rattle.std.proofs.Common.{◌≡◌, arith, map}
use Rattle.qm_docset.specs.Entry.{from}
use Rattle.qm_docset.specs.GatherFacts.{AreMembers-map}
use Rattle.qm_combine.specs.Union.{united_limits}
use Rattle.qm_combine.specs.Window.{window_combiner, window_has}
use Rattle.qm_combine.specs.Windowed.{IsWindowed}
use Rattle.qm_combine.proofs.Standing.{stands_on}
use Rattle.qm_scorer.specs.AnyCombiner.{any_combined}
use Rattle.qm_scorer.specs.Tree.{kept_score, tree_entries, tree_limits, union_listing}
use Rattle.qm_scorer.specs.TreeFacts.{tree-ascends}
use Rattle.qm_scorer.specs.United.{union_limits, union_list, union_lists}
use Rattle.qm_scorer.proofs.union_node.UnionNodeWindowedUnionAnyCombiner.stand_on.Goals as goal
use Rattle.qm_scorer.proofs.union_node.UnionNodeWindowedUnionAnyCombiner.stand_on.Goals.{Start}
use Rattle.qm_scorer.proofs.union_node.UnionNodeWindowedUnionAnyCombiner.stand_on.Given.{Over}

stood : (g : Over) (c : Start g)
    → (union_listing c.args.self.now.window c.args.doc (union_lists g.S.DocSet c.args.self.now) ≡ from c.args.doc (union_list g.S.DocSet c.args.self.now))
    × IsWindowed 1 (window_has c.args.self.now.window) (kept_score c.args.self.now.window) c.args.doc c.args.self.now.ahead
    (any_combined (window_combiner c.args.self.now.window)) (united_limits (union_limits g.S.DocSet c.args.self.now)) (union_lists g.S.DocSet c.args.self.now)
stood g c =
    let D = g.S.DocSet in
    let n = c.args.self.now in
    let h = c.requires.standing in
    let members = AreMembers-map (tree_limits D) (tree_entries D) n.members.items
    (λ k d inside. tree-ascends D g.met.S.DocSet.ascending _ (h.members.valid k d inside)) in
    stands_on 1 (omega arith) (window_has n.window) (kept_score n.window) n.doc n.ahead (any_combined (window_combiner n.window))
    (united_limits (map (tree_limits D) n.members.items)) _ _ members h.own.standing c.args.doc c.requires.behind c.requires.there

pub returns-clause-entries : goal.returns-clause-entries
returns-clause-entries g c = (stood g (goal.at.returns-clause-entries g c).Start).0

pub returns-clause-standing : goal.returns-clause-standing
returns-clause-standing g c =
    let h = c.requires.standing in
    record {
      members = record { valid = h.members.valid; placed = h.members.placed };
      own = record { parts = h.own.parts; standing = (stood g (goal.at.returns-clause-standing g c).Start).1 };
    }
