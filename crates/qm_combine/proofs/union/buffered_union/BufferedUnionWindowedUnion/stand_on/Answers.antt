-- The window has the document, so that nothing is lost from there on.
use Rattle.std.proofs.Common.{◌≡◌, map}
use Rattle.qm_docset.specs.Entry.{from}
use Rattle.qm_docset.specs.GatherFacts.{AreMembers-map}
use Rattle.qm_docset.specs.Lists.{bounds, lists}
use Rattle.qm_combine.specs.BufferedUnion.{union_entries}
use Rattle.qm_combine.specs.United.{kept_score}
use Rattle.qm_combine.specs.Union.{united_limits}
use Rattle.qm_combine.specs.Window.{window_combiner, window_has}
use Rattle.qm_combine.specs.Windowed.{IsWindowed}
use Rattle.qm_combine.proofs.Standing.{stands_on}
use Rattle.qm_combine.proofs.union.buffered_union.BufferedUnionWindowedUnion.stand_on.Goals as goal
use Rattle.qm_combine.proofs.union.buffered_union.BufferedUnionWindowedUnion.stand_on.Goals.{Start}
use Rattle.qm_combine.proofs.union.buffered_union.BufferedUnionWindowedUnion.stand_on.Given.{Over}

stood : (g : Over) (c : Start g)
    → (union_entries g.S.DocSet g.C.ScoreCombiner.combined g.C.ScoreCombiner.value (g.L.LeastMembers.least c.args.self.now.least)
    c.args.self.now.window c.args.doc c.args.self.now.members.items ≡ from c.args.doc (union_entries g.S.DocSet g.C.ScoreCombiner.combined g.C.ScoreCombiner.value
    (g.L.LeastMembers.least c.args.self.now.least) c.args.self.now.window c.args.self.now.doc c.args.self.now.members.items))
    × IsWindowed (g.L.LeastMembers.least c.args.self.now.least) (window_has c.args.self.now.window)
    (kept_score g.C.ScoreCombiner.combined g.C.ScoreCombiner.value c.args.self.now.window) c.args.doc
    c.args.self.now.ahead (g.C.ScoreCombiner.combined (window_combiner c.args.self.now.window))
    (united_limits (bounds g.S.DocSet c.args.self.now.members.items)) (lists g.S.DocSet c.args.self.now.members.items)
stood g c =
    let s = c.args.self.now in
    let h = c.requires.standing in
    let members = AreMembers-map g.S.DocSet.limits g.S.DocSet.entries s.members.items (λ k d inside. g.met.S.DocSet.ascending _ (h.placed.valid k d inside)) in
    stands_on (g.L.LeastMembers.least s.least) (g.met.L.LeastMembers.some s.least) (window_has s.window)
    (kept_score g.C.ScoreCombiner.combined g.C.ScoreCombiner.value s.window) s.doc s.ahead
    (g.C.ScoreCombiner.combined (window_combiner s.window)) (united_limits (map g.S.DocSet.limits s.members.items)) _ _ members h.own.standing
    c.args.doc c.requires.behind c.requires.there

pub returns-clause-entries : goal.returns-clause-entries
returns-clause-entries g c = (stood g (goal.at.returns-clause-entries g c).Start).0

pub returns-clause-standing : goal.returns-clause-standing
returns-clause-standing g c =
    let h = c.requires.standing in
    record {
      placed = h.placed;
      own = record { parts = h.own.parts; standing = (stood g (goal.at.returns-clause-standing g c).Start).1 };
    }
