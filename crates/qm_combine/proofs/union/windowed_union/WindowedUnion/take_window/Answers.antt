-- What the window gives is the front of what is listed, and it goes past the last of that.
use Rattle.std.proofs.Common.{◌≡◌, ℕ, ◌-◌, ◌<◌, ◌≤◌, get_or, length, take, ap, ap₂, refl, arith, ◌∙◌}
use Rattle.qm_combine.specs.United.{IsGoing, Shown}
use Rattle.qm_combine.specs.Window.{window_from}
use Rattle.qm_combine.specs.declared.union.window.Window.{Window}
use Rattle.qm_combine.proofs.Uniting.{least_head-most}
use Rattle.qm_combine.proofs.WindowTaken.{behind-last, last-before, last-past, taken-within, window-some, window-taken}
use Rattle.qm_combine.proofs.union.windowed_union.WindowedUnion.take_window.Goals as goal
use Rattle.qm_combine.proofs.union.windowed_union.WindowedUnion.take_window.Goals.{After-fill-count}
use Rattle.qm_combine.proofs.union.windowed_union.WindowedUnion.take_window.Given.{Over}

module _ (g : Over) (c : After-fill-count g) where
  abbrev s : Shown g.row.C.Denot
  s = g.Self.WindowedUnion.shown c.args.self.now

  going : IsGoing g.C.ScoreCombiner.combined g.C.ScoreCombiner.value s
  going = g.met.Self.WindowedUnion.going c.args.self.now c.requires.standing

  -- what the window has from its document on
  same : window_from c.window.result.now c.document.result ≡ window_from s.window s.document
  same = ap₂ (λ (v : Window g.row.C.Denot) (d : ℕ). window_from v d) c.window.ensures c.document.ensures

  some : 1 ≤ c.fill-count.result
  some =
      let first = window-some s.window s.document (going.standing.here c.requires.here) in
      omega (arith, first, ap length same, c.fill-count.ensures.count, c.requires.places)

  few : c.fill-count.result ≤ length (window_from s.window s.document)
  few = omega (arith, ap length same, c.fill-count.ensures.count)

  filled : take c.fill-count.result c.fill-count.new.places ≡ take c.fill-count.result (window_from s.window s.document)
  filled = c.fill-count.ensures.documents ∙ ap (take c.fill-count.result) same

  -- the last that was taken lies at or past its document, before what the members have left, and behind
  -- it lies what was not taken
  abbrev last : ℕ
  last = get_or c.fill-count.new.places (c.fill-count.result - 1) 0

  past : s.document ≤ last
  past = last-past g.C.ScoreCombiner.combined g.C.ScoreCombiner.value s going c.fill-count.result few c.fill-count.new.places last 0 some filled refl

  before : last < s.ahead
  before = last-before g.C.ScoreCombiner.combined g.C.ScoreCombiner.value s going c.fill-count.result few c.fill-count.new.places last 0 some filled refl

pub overflow_sub-count : goal.overflow_sub-count
overflow_sub-count g c = some g (goal.at.overflow_sub-count g c).After-fill-count

pub overflow_add-places : goal.overflow_add-places
overflow_add-places g c =
    let at = (goal.at.overflow_add-places g c).After-fill-count in
    omega (arith, before g at, least_head-most (s g at).lists, (going g at).standing.next)

pub go_to-requires-clause-past : goal.go_to-requires-clause-past
go_to-requires-clause-past g c = omega (arith, past g (goal.at.go_to-requires-clause-past g c).After-fill-count)

pub go_to-requires-clause-reach : goal.go_to-requires-clause-reach
go_to-requires-clause-reach g c = omega (arith, before g (goal.at.go_to-requires-clause-reach g c).After-fill-count)

pub returns-clause-some : goal.returns-clause-some
returns-clause-some g c = (some g (goal.at.returns-clause-some g c).After-fill-count, omega (arith, c.fill-count.ensures.count))

pub returns-clause-within : goal.returns-clause-within
returns-clause-within g c =
    let at = (goal.at.returns-clause-within g c).After-fill-count in
    taken-within g.C.ScoreCombiner.combined g.C.ScoreCombiner.value (s g at) (going g at) c.fill-count.result (few g at)

pub returns-clause-documents : goal.returns-clause-documents
returns-clause-documents g c =
    let at = (goal.at.returns-clause-documents g c).After-fill-count in
    filled g at ∙ window-taken g.C.ScoreCombiner.combined g.C.ScoreCombiner.value (s g at) (going g at) c.fill-count.result (few g at)

pub returns-clause-entries : goal.returns-clause-entries
returns-clause-entries g c =
    let at = (goal.at.returns-clause-entries g c).After-fill-count in
    c.go_to.ensures.entries
    ∙ behind-last g.C.ScoreCombiner.combined g.C.ScoreCombiner.value (s g at) (going g at) c.fill-count.result (few g at)
    c.fill-count.new.places (last g at) 0 (some g at) (filled g at) refl
