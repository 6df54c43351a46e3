-- The window was filled from what the members had.
use Rattle.std.specs.Prelude.{IfSome}
use Rattle.std.specs.Option.{IsNone}
use Rattle.std.specs.declared.option.Option.{Option}
use Rattle.std.proofs.Common.{◌≡◌, ℕ, ◌+◌, ◌++◌, ◌<◌, ◌≤◌, true, false, List, Some, None, drop, fold, length, max, subst, take, arith, ap, sym, slice_get}
use Rattle.std.proofs.Common.{true≢false, ◌∙◌}
use Rattle.qm_docset.specs.Entry.{Entry}
use Rattle.qm_docset.specs.Gather.{AreMembers, gather}
use Rattle.qm_docset.specs.GatherFacts.{AreMembers-map}
use Rattle.qm_docset.specs.Lists.{bounds, lists}
use Rattle.qm_docset.proofs.MembersLemmas.{IsFirst}
use Rattle.qm_combine.specs.BufferedUnion.{IsBufferedUnion, IsPassed, union_entries}
use Rattle.qm_combine.specs.CombineFacts.{value-fold}
use Rattle.qm_combine.specs.Combiner.{IsCleared}
use Rattle.qm_combine.specs.Union.{least_head, total_top}
use Rattle.qm_combine.specs.United.{kept_score}
use Rattle.qm_combine.specs.Window.{window_combiner, window_end, window_from, window_has}
use Rattle.qm_combine.specs.Windowed.{windowed}
use Rattle.qm_combine.specs.declared.union.window.Window.{Window}
use Rattle.qm_combine.proofs.Leading.{whole}
use Rattle.qm_combine.proofs.MadeUnions.{kept-before, kept-there, united-made, united-taken}
use Rattle.qm_combine.proofs.Refilled.{least_head-cut}
use Rattle.qm_combine.proofs.Standing.{answers_first, answers_none}
use Rattle.qm_combine.proofs.Windows.{windowed-ended, windowed-next}
use Rattle.qm_combine.proofs.union.buffered_union.BufferedUnion.fill_window.Goals as goal
use Rattle.qm_combine.proofs.union.buffered_union.BufferedUnion.fill_window.Goals.{After-next_until_last}
use Rattle.qm_combine.proofs.union.buffered_union.BufferedUnion.fill_window.Given.{Over}

module _ (g : Over) (c : After-next_until_last g) where
  abbrev least : ℕ
  least = g.L.LeastMembers.least c.args.self.now.least

  abbrev made : List ℕ → ℕ
  made = g.C.ScoreCombiner.combined (window_combiner c.args.self.now.window)

  abbrev w : Window g.row.C.Denot
  w = c.keep_enough.new.window

  abbrev end : ℕ
  end = c.args.self.now.ahead + c.args.self.now.span

  abbrev entries : List g.row.S.Denot → ℕ → List Entry
  entries members doc = union_entries g.S.DocSet g.C.ScoreCombiner.combined g.C.ScoreCombiner.value least w doc members

  some : 1 ≤ least
  some = g.met.L.LeastMembers.some c.args.self.now.least

  -- the members as they were lent
  lent : AreMembers (bounds g.S.DocSet c.deref_mut.result.now) (lists g.S.DocSet c.deref_mut.result.now)
  lent =
      let s = c.args.self.now in
      subst (λ xs. AreMembers (bounds g.S.DocSet xs) (lists g.S.DocSet xs)) (sym c.deref_mut.ensures.value)
      (AreMembers-map g.S.DocSet.limits g.S.DocSet.entries s.members.items
      (λ k d inside. g.met.S.DocSet.ascending _ (c.requires.passed.placed.valid k d inside)))

  -- and as they are after
  after : AreMembers (bounds g.S.DocSet c.take_members-self.new.members) (lists g.S.DocSet c.take_members-self.new.members)
  after = AreMembers-map g.S.DocSet.limits g.S.DocSet.entries c.take_members-self.new.members
      (λ k d inside. g.met.S.DocSet.ascending _ (c.take_members-self.ensures.members.valid k d inside))

  from_least : c.args.self.now.ahead ≡ least_head (lists g.S.DocSet c.deref_mut.result.now)
  from_least = c.requires.passed.next ∙ sym (ap (λ xs. least_head (lists g.S.DocSet xs)) c.deref_mut.ensures.value)

  -- the row that the members stand in is the one that was lent
  abbrev row : List g.row.S.Denot
  row = take c.args.self.now.members.len (c.take_members-self.new.members ++ drop (length c.take_members-self.new.members) c.args.self.now.members.items)

  same : row ≡ c.take_members-self.new.members
  same = whole c.args.self.now.members.len c.take_members-self.new.members c.args.self.now.members.items
      (c.take_members-self.auto.members ∙ ap length c.deref_mut.ensures.value) c.args.self.now.members.ok.0

  limits : bounds g.S.DocSet c.take_members-self.new.members ≡ bounds g.S.DocSet c.args.self.now.members.items
  limits = c.take_members-self.ensures.limits ∙ ap (bounds g.S.DocSet) c.deref_mut.ensures.value

  combiner : window_combiner w ≡ window_combiner c.args.self.now.window
  combiner = c.keep_enough.ensures.combiner ∙ c.take_members-self.ensures.combiner

  worth : (scores : List ℕ) → g.C.ScoreCombiner.value (fold g.C.ScoreCombiner.step (window_combiner c.args.self.now.window) scores) ≡ made scores
  worth =
      let start = c.requires.passed.parts.start in
      value-fold g.C.ScoreCombiner g.met.C.ScoreCombiner.combines g.met.C.ScoreCombiner.clear_keeps start.start _ start.is

  before : (d : ℕ) → window_has w d ≡ true → d < end
  before =
      let e = c.take_members-self.ensures in
      kept-before least some g.C.ScoreCombiner.step c.take_members-self.new.window w c.keep_enough.ensures g.C.ScoreCombiner.value made
      (window_combiner c.args.self.now.window) e.combiner c.args.self.now.ahead end _ _ lent from_least e.documents e.beyond e.states worth

  behind : (d : ℕ) → window_has w d ≡ true → d < c.take_members-self.result
  behind d here = c.take_members-self.ensures.behind d
      (kept-there least some g.C.ScoreCombiner.step c.take_members-self.new.window w c.keep_enough.ensures d here)

  -- from a document on that none in the window lies before
  listed : (doc : ℕ) → doc ≤ end → ((d : ℕ) → c.args.self.now.ahead ≤ d → d < doc → window_has w d ≡ false)
      → windowed least (window_has w) (kept_score g.C.ScoreCombiner.combined g.C.ScoreCombiner.value w) doc made
      (lists g.S.DocSet c.take_members-self.new.members) ≡ gather least made (lists g.S.DocSet c.args.self.now.members.items)
  listed doc inside between =
      let e = c.take_members-self.ensures in
      ap (windowed least (window_has w) (kept_score g.C.ScoreCombiner.combined g.C.ScoreCombiner.value w) doc made) e.left
      ∙ united-taken least some g.C.ScoreCombiner.step c.take_members-self.new.window w c.keep_enough.ensures g.C.ScoreCombiner.value made
      (window_combiner c.args.self.now.window) e.combiner c.args.self.now.ahead end _ _ lent from_least e.documents e.beyond e.states worth
      doc inside between
      ∙ ap (λ xs. gather least made (lists g.S.DocSet xs)) c.deref_mut.ensures.value

  passed : IsPassed g.S.DocSet g.C.ScoreCombiner.cleared c.take_members-self.new.members w c.take_members-self.result c.args.self.now.top
  passed =
      let p = c.requires.passed.parts in
      let e = c.take_members-self.ensures in
      let tops = ap total_top limits in
      record {
        placed = e.members;
        parts = record {
          fits = omega (arith, tops, p.fits);
          bound = p.bound ∙ ap (max 1) (sym tops);
          start = subst (IsCleared g.C.ScoreCombiner.cleared) (sym combiner) p.start;
          until = c.keep_enough.ensures.until;
        };
        next = e.least;
        behind = behind;
      }

  -- the first document of the window is the first that is listed
  filled : (doc : ℕ) → IsFirst (window_has w) c.args.self.now.ahead (window_end w) doc
      → entries c.take_members-self.new.members doc ≡ gather least made (lists g.S.DocSet c.args.self.now.members.items)
  filled doc first =
      let inside = before doc first.member in
      ap (λ k. windowed least (window_has w) (kept_score g.C.ScoreCombiner.combined g.C.ScoreCombiner.value w) doc (g.C.ScoreCombiner.combined k)
      (lists g.S.DocSet c.take_members-self.new.members)) combiner ∙ listed doc (omega (arith, inside)) first.none_before

  standing : (doc : ℕ) → IsFirst (window_has w) c.args.self.now.ahead (window_end w) doc
      → IsBufferedUnion g.S.DocSet g.C.ScoreCombiner.combined g.C.ScoreCombiner.value g.C.ScoreCombiner.cleared least c.take_members-self.new.members w doc
      c.take_members-self.result c.args.self.now.top
  standing doc first =
      let s = c.args.self.now in
      let e = c.take_members-self.ensures in
      let ahead : doc < c.take_members-self.result = behind doc first.member in
      let reached = windowed-next least some (window_has w) (kept_score g.C.ScoreCombiner.combined g.C.ScoreCombiner.value w)
      (g.C.ScoreCombiner.combined (window_combiner w)) _ _ after doc doc doc (omega arith) (omega arith)
      (λ d past below. absurd (omega (arith, past, below))) first.member (omega (arith, ahead, e.least)) in
      record {
        placed = e.members;
        own = united-made g.C.ScoreCombiner.combined g.C.ScoreCombiner.value g.C.ScoreCombiner.cleared g.met.C.ScoreCombiner.bounded g.S.DocSet.entries
            g.S.DocSet.limits g.S.DocSet.valid g.met.S.DocSet.ascending least s.members.items w (window_combiner s.window) doc c.take_members-self.result s.top
            (bounds g.S.DocSet c.take_members-self.new.members) (lists g.S.DocSet c.take_members-self.new.members) c.requires.passed.placed.valid passed.parts
            limits (filled doc first) (sym reached.1) (λ _. first.member) (omega (arith, ahead)) e.least behind;
      }

  abbrev Answer : Option ℕ → Type 0
  Answer result = result ≡ slice_get (window_from w c.args.self.now.ahead) 0

  found : (result : Option ℕ) → Answer result → IfSome result (λ doc. IsBufferedUnion g.S.DocSet g.C.ScoreCombiner.combined g.C.ScoreCombiner.value
      g.C.ScoreCombiner.cleared least row w doc c.take_members-self.result c.args.self.now.top)
  found None read = tt
  found (Some doc) read = subst (λ xs. IsBufferedUnion g.S.DocSet g.C.ScoreCombiner.combined g.C.ScoreCombiner.value g.C.ScoreCombiner.cleared least xs w doc
      c.take_members-self.result c.args.self.now.top) (sym same) (standing doc (answers_first w c.args.self.now.ahead doc read))

  found_entries : (result : Option ℕ) → Answer result → IfSome result (λ doc.
      entries row doc ≡ gather least made (lists g.S.DocSet c.args.self.now.members.items))
  found_entries None read = tt
  found_entries (Some doc) read = ap (λ xs. entries xs doc) same ∙ filled doc (answers_first w c.args.self.now.ahead doc read)

  -- nothing that enough of them had was passed over
  found_none : (result : Option ℕ) → Answer result → IsNone result
      → gather least (g.C.ScoreCombiner.combined (window_combiner w)) (lists g.S.DocSet row)
      ≡ gather least made (lists g.S.DocSet c.args.self.now.members.items)
  found_none None read none = ap (λ k. gather least (g.C.ScoreCombiner.combined k) (lists g.S.DocSet row)) combiner
      ∙ ap (λ xs. gather least made (lists g.S.DocSet xs)) same
      ∙ sym (windowed-ended least some (window_has w) (kept_score g.C.ScoreCombiner.combined g.C.ScoreCombiner.value w) made _ _ after end before
      (λ d here. omega (arith, behind d here, c.take_members-self.ensures.least)))
      ∙ listed end (omega arith) (λ d past below. answers_none w c.args.self.now.ahead read d past)
  found_none (Some doc) read none = absurd (true≢false none)

pub returns-clause-found : goal.returns-clause-found
returns-clause-found g c = found g (goal.at.returns-clause-found g c).After-next_until_last c.next_until_last.result c.next_until_last.ensures

pub returns-clause-entries : goal.returns-clause-entries
returns-clause-entries g c = found_entries g (goal.at.returns-clause-entries g c).After-next_until_last c.next_until_last.result c.next_until_last.ensures

pub returns-clause-none : goal.returns-clause-none
returns-clause-none g c = found_none g (goal.at.returns-clause-none g c).After-next_until_last c.next_until_last.result c.next_until_last.ensures

pub returns-clause-passed : goal.returns-clause-passed
returns-clause-passed g c =
    let at = (goal.at.returns-clause-passed g c).After-next_until_last in
    subst (λ xs. IsPassed g.S.DocSet g.C.ScoreCombiner.cleared xs c.keep_enough.new.window c.take_members-self.result c.args.self.now.top)
    (sym (same g at)) (passed g at)

-- the members stand at or past the end of what was taken
pub returns-clause-further : goal.returns-clause-further
returns-clause-further g c =
    let s = c.args.self.now in
    let e = c.take_members-self.ensures in
    let cut = least_head-cut (s.ahead + s.span) (lists g.S.DocSet c.deref_mut.result.now) in
    omega (arith, e.least, ap least_head e.left, cut, s.within, c.requires.below)
