-- The window has the document, or the members do.
use Rattle.std.proofs.Common.{◌≡◌, slice_get, Some, None, subst, sym, arith, ◌∙◌}
use Rattle.qm_docset.proofs.MembersLemmas.{IsFirst}
use Rattle.qm_combine.specs.United.{kept_score}
use Rattle.qm_combine.specs.Union.{united_limits}
use Rattle.qm_combine.specs.Window.{window_combiner, window_end, window_from, window_has}
use Rattle.qm_combine.specs.declared.union.window.Window.{Window}
use Rattle.qm_combine.proofs.Standing.{answers_first, answers_none, goes_next, goes_on, stands_on}
use Rattle.qm_combine.proofs.union.windowed_union.WindowedUnion.go_to.Goals as goal
use Rattle.qm_combine.proofs.union.windowed_union.WindowedUnion.go_to.Goals.{In-Some}
use Rattle.qm_combine.proofs.union.windowed_union.WindowedUnion.go_to.Given.{Over}

-- the next document of the window
next : (g : Over) (c : In-Some g) → IsFirst (window_has (g.Self.WindowedUnion.shown c.args.self.now).window) c.args.target
    (window_end (g.Self.WindowedUnion.shown c.args.self.now).window) c.in-Some.doc
next g c =
    let w = (g.Self.WindowedUnion.shown c.args.self.now).window in
    answers_first w c.args.target c.in-Some.doc
    (subst (λ (v : Window g.row.C.Denot). Some c.in-Some.doc ≡ slice_get (window_from v c.args.target) 0) c.window.ensures c.in-Some.ensures)

pub stand_on-requires-clause-behind : goal.stand_on-requires-clause-behind
stand_on-requires-clause-behind g c =
    let first = next g (goal.at.stand_on-requires-clause-behind g c).In-Some in
    omega (arith, first.above, c.requires.past)

pub stand_on-requires-clause-there : goal.stand_on-requires-clause-there
stand_on-requires-clause-there g c = (next g (goal.at.stand_on-requires-clause-there g c).In-Some).member

-- nothing is left between the target and that document
pub returns-in-Some-clause-entries : goal.returns-in-Some-clause-entries
returns-in-Some-clause-entries g c =
    let s = g.Self.WindowedUnion.shown c.args.self.now in
    let h = g.met.Self.WindowedUnion.going c.args.self.now c.requires.standing in
    let w = s.window in
    let doc = c.in-Some.doc in
    let first = next g (goal.at.returns-in-Some-clause-entries g c).In-Some in
    let score = kept_score g.C.ScoreCombiner.combined g.C.ScoreCombiner.value w in
    let combined = g.C.ScoreCombiner.combined (window_combiner w) in
    let limits = united_limits s.bounds in
    let stands = stands_on s.least h.some (window_has w) score s.document s.ahead combined limits s.bounds s.lists h.members h.standing doc
    (omega (arith, first.above, c.requires.past)) first.member in
    let goes = goes_next s.least h.some (window_has w) score s.document s.ahead combined limits s.bounds s.lists h.members h.standing c.args.target
    doc (window_end w)
    (omega (arith, c.requires.past)) first in
    c.stand_on.ensures.entries ∙ sym stands.0 ∙ goes.0

pub returns-clause-entries : goal.returns-clause-entries
returns-clause-entries g c =
    let s = g.Self.WindowedUnion.shown c.args.self.now in
    let h = g.met.Self.WindowedUnion.going c.args.self.now c.requires.standing in
    let w = s.window in
    let none = answers_none w c.args.target
    (subst (λ (v : Window g.row.C.Denot). None ≡ slice_get (window_from v c.args.target) 0) c.window.ensures c.in_default.ensures) in
    c.go_on.ensures.entries
    ∙ goes_on s.least h.some (window_has w) (kept_score g.C.ScoreCombiner.combined g.C.ScoreCombiner.value w) s.document s.ahead
    (g.C.ScoreCombiner.combined (window_combiner w)) (united_limits s.bounds) s.bounds s.lists h.members h.standing c.args.target
    (omega (arith, c.requires.past)) c.requires.reach none
