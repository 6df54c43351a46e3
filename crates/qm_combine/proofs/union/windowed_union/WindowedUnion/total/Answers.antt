-- The documents of the window are counted, and then those that the members have left.
use Rattle.std.proofs.Common.{◌≡◌, ℕ, ◌+◌, ◌≤◌, length, arith, ap, ap₂, ◌∙◌}
use Rattle.qm_docset.specs.EntryFacts.{length-entries}
use Rattle.qm_docset.specs.Gather.{gather}
use Rattle.qm_combine.specs.United.{shown_list}
use Rattle.qm_combine.specs.Window.{window_combiner, window_from}
use Rattle.qm_combine.specs.declared.union.window.Window.{Window}
use Rattle.qm_combine.proofs.WindowTaken.{window-some, windowed-length}
use Rattle.qm_combine.proofs.union.windowed_union.WindowedUnion.total.Goals as goal
use Rattle.qm_combine.proofs.union.windowed_union.WindowedUnion.total.Goals.{After-len_from-count}
use Rattle.qm_combine.proofs.union.windowed_union.WindowedUnion.total.Given.{Over}

-- those of the window, which are some, and those that the members have left
record IsCounted (listed counted rest : ℕ) : Type 0 where
  all : listed ≡ counted + rest
  some : 1 ≤ counted

parts : (g : Over) (c : After-len_from-count g)
    → IsCounted (length (shown_list g.C.ScoreCombiner.combined g.C.ScoreCombiner.value (g.Self.WindowedUnion.shown c.loop-self.self))) c.len_from-count.result
    (length (gather (g.Self.WindowedUnion.shown c.loop-self.self).least
    (g.C.ScoreCombiner.combined (window_combiner (g.Self.WindowedUnion.shown c.loop-self.self).window))
    (g.Self.WindowedUnion.shown c.loop-self.self).lists))
parts g c =
    let s = g.Self.WindowedUnion.shown c.loop-self.self in
    let h = g.met.Self.WindowedUnion.going c.loop-self.self c.loop-self.invariant.standing in
    let own = ap₂ (λ (v : Window g.row.C.Denot) (d : ℕ). length (window_from v d)) c.window.ensures c.document-in-loop-self.ensures in
    let all = windowed-length g.C.ScoreCombiner.combined g.C.ScoreCombiner.value s h in
    let first = window-some s.window s.document (h.standing.here (omega (arith, c.document.ensures, c.loop-self-test.true))) in
    record { all = omega (arith, all, own, c.len_from-count.ensures); some = omega (arith, own, first, c.len_from-count.ensures) }

pub overflow_add-count : goal.overflow_add-count
overflow_add-count g c =
    let p = parts g (goal.at.overflow_add-count g c).After-len_from-count in
    let most = length-entries 0 _ _ (omega arith) (g.met.Self.WindowedUnion.going c.args.self.now c.requires.standing).standing.ascending in
    omega (arith, p.all, most, c.loop-self.invariant.counted)

pub loop-self-smaller : goal.loop-self-smaller
loop-self-smaller g c =
    let p = parts g (goal.at.loop-self-smaller g c).After-len_from-count in
    omega (arith, p.all, p.some, ap length c.go_on.ensures.entries)

pub loop-self-preserved : goal.loop-self-preserved
loop-self-preserved g c =
    let p = parts g (goal.at.loop-self-preserved g c).After-len_from-count in
    let e = c.go_on.ensures.members in
    let inv = c.loop-self.invariant.members in
    record {
      counted = omega (arith, p.all, c.loop-self.invariant.counted, ap length c.go_on.ensures.entries);
      members = record { least = e.least ∙ inv.least; bounds = e.bounds ∙ inv.bounds };
      standing = c.go_on.ensures.standing;
    }
