-- The members have nothing left: it is at its end.
use Rattle.std.proofs.Common.{◌≡◌, ℕ, ◌≤◌, [], length, arith, ap, refl, sym, ◌∙◌}
use Rattle.qm_docset.specs.Entry.{head_document}
use Rattle.qm_docset.specs.Gather.{AreMembers, gather}
use Rattle.qm_docset.specs.GatherFacts.{AreMembers-map}
use Rattle.qm_docset.specs.Lists.{bounds, lists}
use Rattle.qm_docset.specs.declared.numbers.TheConstants.{TERMINATED}
use Rattle.qm_docset.proofs.Gathering.{gather-none}
use Rattle.qm_combine.specs.BufferedUnion.{IsBufferedUnion, union_entries}
use Rattle.qm_combine.specs.Union.{least_head, united_limits}
use Rattle.qm_combine.specs.United.{kept_score}
use Rattle.qm_combine.specs.Window.{window_combiner, window_has}
use Rattle.qm_combine.proofs.MadeUnions.{united-made}
use Rattle.qm_combine.proofs.Uniting.{least_head-most, scores_at-ahead}
use Rattle.qm_combine.proofs.Windows.{windowed-ended}
use Rattle.qm_combine.proofs.union.buffered_union.BufferedUnion.go_to_least.Goals as goal
use Rattle.qm_combine.proofs.union.buffered_union.BufferedUnion.go_to_least.Goals.{After-loop-self}
use Rattle.qm_combine.proofs.union.buffered_union.BufferedUnion.go_to_least.Given.{Over}

module _ (g : Over) (c : After-loop-self g) where
  abbrev least : ℕ
  least = g.L.LeastMembers.least c.loop-self.self.least

  some : 1 ≤ least
  some = g.met.L.LeastMembers.some c.loop-self.self.least

  members : AreMembers (bounds g.S.DocSet c.loop-self.self.members.items) (lists g.S.DocSet c.loop-self.self.members.items)
  members = AreMembers-map g.S.DocSet.limits g.S.DocSet.entries c.loop-self.self.members.items
      (λ k d inside. g.met.S.DocSet.ascending _ (c.loop-self.invariant.passed.placed.valid k d inside))

  ended : TERMINATED ≤ least_head (lists g.S.DocSet c.loop-self.self.members.items)
  ended = omega (arith, c.loop-self.invariant.passed.next, c.loop-self-test.false)

  none : gather least (g.C.ScoreCombiner.combined (window_combiner c.loop-self.self.window)) (lists g.S.DocSet c.loop-self.self.members.items) ≡ []
  none = gather-none least (g.C.ScoreCombiner.combined (window_combiner c.loop-self.self.window)) _ (λ d below.
      omega (arith, some, ap length (scores_at-ahead d _ _ members (omega (arith, below, ended)))))

  left : union_entries g.S.DocSet g.C.ScoreCombiner.combined g.C.ScoreCombiner.value least c.loop-self.self.window TERMINATED c.loop-self.self.members.items
      ≡ gather least (g.C.ScoreCombiner.combined (window_combiner c.loop-self.self.window)) (lists g.S.DocSet c.loop-self.self.members.items)
  left =
      let s = c.loop-self.self in
      let p = c.loop-self.invariant.passed in
      let most = least_head-most (lists g.S.DocSet s.members.items) in
      windowed-ended least some (window_has s.window) (kept_score g.C.ScoreCombiner.combined g.C.ScoreCombiner.value s.window)
      (g.C.ScoreCombiner.combined (window_combiner s.window)) _ _ members TERMINATED (λ d here. omega (arith, most, p.next, p.behind d here))
      (λ d here. omega (arith, p.next, p.behind d here))

  standing : IsBufferedUnion g.S.DocSet g.C.ScoreCombiner.combined g.C.ScoreCombiner.value g.C.ScoreCombiner.cleared least
      c.loop-self.self.members.items c.loop-self.self.window TERMINATED c.loop-self.self.ahead c.loop-self.self.top
  standing =
      let s = c.loop-self.self in
      let p = c.loop-self.invariant.passed in
      record {
        placed = p.placed;
        own = united-made g.C.ScoreCombiner.combined g.C.ScoreCombiner.value g.C.ScoreCombiner.cleared g.met.C.ScoreCombiner.bounded g.S.DocSet.entries
            g.S.DocSet.limits g.S.DocSet.valid g.met.S.DocSet.ascending least s.members.items s.window (window_combiner s.window) TERMINATED s.ahead s.top
            (bounds g.S.DocSet s.members.items) (lists g.S.DocSet s.members.items) p.placed.valid p.parts refl left
            (sym (ap head_document (left ∙ none))) (λ below. absurd (omega (arith, below))) (omega (arith, c.loop-self-test.false)) p.next p.behind;
      }

pub returns-clause-head : goal.returns-clause-head
returns-clause-head g c =
    let at = (goal.at.returns-clause-head g c).After-loop-self in
    sym (ap head_document (left g at ∙ none g at))

pub returns-clause-left : goal.returns-clause-left
returns-clause-left g c =
    let at = (goal.at.returns-clause-left g c).After-loop-self in
    record {
      entries = left g at ∙ c.loop-self.invariant.left;
      limits = ap united_limits c.loop-self.invariant.bounds;
      valid = standing g at;
      placed = tt;
    }
