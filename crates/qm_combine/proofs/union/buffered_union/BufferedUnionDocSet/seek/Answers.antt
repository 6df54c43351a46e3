-- Up to what the members stand on it goes by the window; past it they are sent there.
use Rattle.std.proofs.Common.{◌≡◌, ℕ, ◌++◌, ◌≤◌, false, drop, length, map, subst, take, arith, ap, sym, ◌∙◌}
use Rattle.std.proofs.lemmas.Bool.{false_from_ne_true}
use Rattle.qm_docset.specs.Entry.{from}
use Rattle.qm_docset.specs.EntryFacts.{from-reached}
use Rattle.qm_docset.specs.Gather.{gather}
use Rattle.qm_docset.specs.GatherFacts.{AreMembers-map}
use Rattle.qm_docset.specs.Lists.{bounds, lists}
use Rattle.qm_combine.specs.BufferedUnion.{IsPassed}
use Rattle.qm_combine.specs.United.{HasParts, kept_score}
use Rattle.qm_combine.specs.Union.{united_limits}
use Rattle.qm_combine.specs.Window.{window_combiner, window_has}
use Rattle.qm_combine.proofs.Leading.{whole}
use Rattle.qm_combine.proofs.Standing.{goes_past, least_head-reached}
use Rattle.qm_combine.proofs.union.buffered_union.BufferedUnionDocSet.seek.Goals as goal
use Rattle.qm_combine.proofs.union.buffered_union.BufferedUnionDocSet.seek.Goals.{After-seek_below-self}
use Rattle.qm_combine.proofs.union.buffered_union.BufferedUnionDocSet.seek.Given.{Over}

pub returns-then-target-self-clause-entries : goal.returns-then-target-self-clause-entries
returns-then-target-self-clause-entries g c =
    let h = c.requires.valid.own.standing in
    sym (from-reached c.args.target 0 _ _ (omega (arith, h.first, c.if-target-self.true)) h.ascending)

-- the row that the members stand in is the one that was lent
same : (g : Over) (c : After-seek_below-self g) → take c.args.self.now.members.len
    (c.seek_below-self.new.members ++ drop (length c.seek_below-self.new.members) c.args.self.now.members.items) ≡ c.seek_below-self.new.members
same g c = whole c.args.self.now.members.len c.seek_below-self.new.members c.args.self.now.members.items
    (c.seek_below-self.auto.members ∙ ap length c.deref_mut.ensures.value) c.args.self.now.members.ok.0

pub go_to_least-requires-clause-passed : goal.go_to_least-requires-clause-passed
go_to_least-requires-clause-passed g c =
    let s = c.args.self.now in
    let own = c.requires.valid.own in
    let new = c.seek_below-self.new.members in
    let e = c.seek_below-self.ensures in
    let limits = e.limits ∙ ap (bounds g.S.DocSet) c.deref_mut.ensures.value in
    let reached = least_head-reached g.S.DocSet.placed g.S.DocSet.entries c.args.target new c.requires.target e.reached in
    let passed : IsPassed g.S.DocSet g.C.ScoreCombiner.cleared new s.window c.seek_below-self.result s.top = record {
      placed = record { valid = e.valid; placed = λ k d inside. (e.reached k d inside).0 };
      parts = subst (HasParts g.C.ScoreCombiner.cleared s.window s.top) (sym limits) own.parts;
      next = e.least;
      behind = λ d here. omega (arith, reached, own.standing.behind d here, e.least, c.if-target-self-2.false);
    } in
    subst (λ xs. IsPassed g.S.DocSet g.C.ScoreCombiner.cleared xs s.window c.seek_below-self.result s.top)
    (sym (same g (goal.at.go_to_least-requires-clause-passed g c).After-seek_below-self)) passed

pub returns-clause-entries : goal.returns-clause-entries
returns-clause-entries g c =
    let s = c.args.self.now in
    let h = c.requires.valid in
    let old = s.members.items in
    let new = c.seek_below-self.new.members in
    let e = c.seek_below-self.ensures in
    let least : ℕ = g.L.LeastMembers.least s.least in
    let law = g.met.S.DocSet.ascending in
    let before = AreMembers-map g.S.DocSet.limits g.S.DocSet.entries old (λ k d inside. law _ (h.placed.valid k d inside)) in
    let after = AreMembers-map g.S.DocSet.limits g.S.DocSet.entries new (λ k d inside. law _ (e.valid k d inside)) in
    let kept : map (from c.args.target) (lists g.S.DocSet new) ≡ map (from c.args.target) (lists g.S.DocSet old) = e.entries
    ∙ ap (λ xs. map (from c.args.target) (lists g.S.DocSet xs)) c.deref_mut.ensures.value in
    let reached = least_head-reached g.S.DocSet.placed g.S.DocSet.entries c.args.target new c.requires.target e.reached in
    let none : (d : ℕ) → c.args.target ≤ d → window_has s.window d ≡ false = λ d past.
    false_from_ne_true (window_has s.window d) (λ here. let low = h.own.standing.behind d here in absurd (omega (arith, c.if-target-self-2.false))) in
    c.go_to_least.ensures.left.entries ∙ ap (λ xs. gather least (g.C.ScoreCombiner.combined (window_combiner s.window)) (lists g.S.DocSet xs))
    (same g (goal.at.returns-clause-entries g c).After-seek_below-self)
    ∙ goes_past least (g.met.L.LeastMembers.some s.least) (window_has s.window)
    (kept_score g.C.ScoreCombiner.combined g.C.ScoreCombiner.value s.window) s.doc s.ahead
    (g.C.ScoreCombiner.combined (window_combiner s.window)) (united_limits (map g.S.DocSet.limits old)) _ _ before h.own.standing c.args.target _ _
    after (omega (arith, c.if-target-self.false)) none reached kept
