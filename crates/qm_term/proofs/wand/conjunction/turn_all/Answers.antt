-- The stretch is passed, or the leader goes on to where another is, or its document is scored.
use Rattle.std.proofs.Common.{◌≡◌, ◌∙◌, ℕ, ℤ, ◌<◌, ◌≤◌, ◌<ℤ◌, ◌≤ℤ◌, List, ◌∷◌, false, map, pos, ap, arith, subst, sym, of_z, to_z, w64}
use Rattle.std.proofs.lemmas.Int.{to_z-of_z}
use Rattle.std.proofs.lemmas.List.Elements.{All-cons, All-head, All-tail}
use Rattle.qm_combine.specs.HeldSum.{held_limits, held_sum}
use Rattle.qm_docset.proofs.Gathering.{head_document-from}
use Rattle.qm_docset.specs.Entry.{Entry, from, head_document, head_score}
use Rattle.qm_docset.specs.Gather.{scored}
use Rattle.qm_docset.specs.declared.numbers.TheConstants.{TERMINATED}
use Rattle.qm_term.specs.Conjunction.{IsBoundedIn, TurnsInto, common_left}
use Rattle.qm_term.specs.Runs.{InRange, MayPrune, MayTurn, Turn}
use Rattle.qm_term.specs.TermScorer.{IsTermScorer, scored_left, scored_limits}
use Rattle.qm_term.specs.TermScorerFacts.{AreEntries-scored}
use Rattle.qm_term.proofs.RunRows.{next_later}
use Rattle.qm_term.proofs.SharedRuns.{AreEntries-common, bounded_from, bounded_later, bounded_tail, cut_common, first_common, may_pass, may_score, passes}
use Rattle.qm_term.proofs.SharedRuns.{reached_common, scores, stays, stepped_common}
use Rattle.qm_term.proofs.wand.conjunction.turn_all.Goals as goal

pub is_above-requires : goal.is_above-requires
is_above-requires g c = c.requires.bound

-- ---- the stretch is passed

pub seek-past-requires-clause-valid : goal.seek-past-requires-clause-valid
seek-past-requires-clause-valid g c = All-head IsTermScorer c.args.leader.now c.args.others.now c.requires.valid

pub seek-past-requires-clause-target : goal.seek-past-requires-clause-target
seek-past-requires-clause-target g c = c.requires.end

pub returns-then-not-is_above-clause-valid : goal.returns-then-not-is_above-clause-valid
returns-then-not-is_above-clause-valid g c =
    All-cons IsTermScorer c.seek-past.new.self c.args.others.now c.seek-past.ensures.valid
    (All-tail IsTermScorer c.args.leader.now c.args.others.now c.requires.valid)

pub returns-then-not-is_above-clause-here : goal.returns-then-not-is_above-clause-here
returns-then-not-is_above-clause-here g c = c.seek-past.ensures.head

pub returns-then-not-is_above-clause-later : goal.returns-then-not-is_above-clause-later
returns-then-not-is_above-clause-later g c =
    omega (
      arith,
      c.requires.past,
      head_document-from c.args.stretch.next (scored_left c.args.leader.now) c.requires.end,
      c.seek-past.ensures.head,
      ap head_document c.seek-past.ensures.entries,
    )

pub returns-then-not-is_above-clause-bounded : goal.returns-then-not-is_above-clause-bounded
returns-then-not-is_above-clause-bounded g c =
    let leader = c.args.leader.now in
    let others = c.args.others.now in
    let next = c.args.stretch.next in
    let cut = cut_common next leader c.seek-past.new.self others c.requires.end c.requires.valid c.seek-past.ensures.entries in
    let up : c.args.doc ≤ c.seek-past.result =
    omega (arith, c.requires.past, head_document-from next (scored_left leader) c.requires.end, c.seek-past.ensures.head, ap head_document c.seek-past.ensures.entries) in
    subst (IsBoundedIn c.seek-past.result next c.args.stretch.bound) (sym cut)
    (bounded_from c.args.doc c.seek-past.result next c.args.stretch.bound next (common_left (leader ∷ others)) up c.requires.bounded)

pub returns-then-not-is_above-clause-run : goal.returns-then-not-is_above-clause-run
returns-then-not-is_above-clause-run g c =
    let step = goal.F-step g in
    let leader = c.args.leader.now in
    let others = c.args.others.now in
    let es = common_left (leader ∷ others) in
    let next = c.args.stretch.next in
    let th = c.args.threshold in
    let f = c.args.callback.now in
    let is : to_z w64 (of_z w64 th) ≡ th = to_z-of_z w64 th c.ranges.threshold in
    let cut = cut_common next leader c.seek-past.new.self others c.requires.end c.requires.valid c.seek-past.ensures.entries in
    let quiet : pos c.args.stretch.bound ≤ℤ th = rw is at (c.is_above.ensures.no c.if-not-is_above.true) in
    let limits = held_limits (scored_limits leader ∷ map scored_limits others) in
    let from_here = c.requires.here in
    let run : TurnsInto step es th f false (from next es) th f =
    passes step (head_document (scored_left leader)) next c.args.stretch.bound th f limits es (AreEntries-common leader others c.requires.valid)
    (subst (λ (d : ℕ). IsBoundedIn d next c.args.stretch.bound es) from_here c.requires.bounded) quiet in
    rw is (subst (λ (l : List Entry). TurnsInto step es th f false l th f) (sym cut) run)

pub returns-then-not-is_above-clause-callable : goal.returns-then-not-is_above-clause-callable
returns-then-not-is_above-clause-callable g c =
    let step = goal.F-step g in
    let leader = c.args.leader.now in
    let others = c.args.others.now in
    let es = common_left (leader ∷ others) in
    let next = c.args.stretch.next in
    let th = c.args.threshold in
    let f = c.args.callback.now in
    let is : to_z w64 (of_z w64 th) ≡ th = to_z-of_z w64 th c.ranges.threshold in
    let cut = cut_common next leader c.seek-past.new.self others c.requires.end c.requires.valid c.seek-past.ensures.entries in
    let quiet : pos c.args.stretch.bound ≤ℤ th = rw is at (c.is_above.ensures.no c.if-not-is_above.true) in
    let limits = held_limits (scored_limits leader ∷ map scored_limits others) in
    let from_here = c.requires.here in
    let may : MayPrune (InRange step) (goal.F-pre g) th f (from next es) =
    may_pass step (head_document (scored_left leader)) next c.args.stretch.bound th f limits es (AreEntries-common leader others c.requires.valid)
    (subst (λ (d : ℕ). IsBoundedIn d next c.args.stretch.bound es) from_here c.requires.bounded) quiet (goal.F-pre g) c.requires.callable in
    rw is (subst (λ (l : List Entry). MayPrune (InRange step) (goal.F-pre g) th f l) (sym cut) may)

-- ---- the others are sought

pub seek_each-requires-clause-valid : goal.seek_each-requires-clause-valid
seek_each-requires-clause-valid g c = All-tail IsTermScorer c.args.leader.now c.args.others.now c.requires.valid

pub seek_each-requires-clause-target : goal.seek_each-requires-clause-target
seek_each-requires-clause-target g c = c.requires.below

-- ---- one of them is past the leader's document

pub seek-reached-requires-clause-valid : goal.seek-reached-requires-clause-valid
seek-reached-requires-clause-valid g c = All-head IsTermScorer c.args.leader.now c.args.others.now c.requires.valid

pub seek-reached-requires-clause-target : goal.seek-reached-requires-clause-target
seek-reached-requires-clause-target g c = c.in-SeekLowerBound.ensures.answer.1

pub returns-in-SeekLowerBound-clause-valid : goal.returns-in-SeekLowerBound-clause-valid
returns-in-SeekLowerBound-clause-valid g c =
    All-cons IsTermScorer c.seek-reached.new.self c.seek_each.new.members c.seek-reached.ensures.valid c.in-SeekLowerBound.ensures.valid

pub returns-in-SeekLowerBound-clause-here : goal.returns-in-SeekLowerBound-clause-here
returns-in-SeekLowerBound-clause-here g c = c.seek-reached.ensures.head

pub returns-in-SeekLowerBound-clause-later : goal.returns-in-SeekLowerBound-clause-later
returns-in-SeekLowerBound-clause-later g c =
    omega (
      arith,
      c.in-SeekLowerBound.ensures.answer.0,
      head_document-from c.in-SeekLowerBound.bound (scored_left c.args.leader.now) c.in-SeekLowerBound.ensures.answer.1,
      c.seek-reached.ensures.head,
      ap head_document c.seek-reached.ensures.entries,
    )

pub returns-in-SeekLowerBound-clause-bounded : goal.returns-in-SeekLowerBound-clause-bounded
returns-in-SeekLowerBound-clause-bounded g c =
    let leader = c.args.leader.now in
    let others = c.args.others.now in
    let had = c.in-SeekLowerBound.ensures in
    let bound = c.in-SeekLowerBound.bound in
    let same = reached_common c.args.doc leader others c.seek_each.new.members c.requires.here c.requires.valid had.valid had.entries
    c.seek-reached.new.self bound had.answer.1 had.answer.2 c.seek-reached.ensures.entries in
    let up : c.args.doc ≤ c.seek-reached.result =
    omega (arith, had.answer.0, head_document-from bound (scored_left leader) had.answer.1, c.seek-reached.ensures.head, ap head_document c.seek-reached.ensures.entries) in
    bounded_later c.args.doc c.seek-reached.result c.args.stretch.next c.args.stretch.bound (common_left (leader ∷ others))
    (common_left (c.seek-reached.new.self ∷ c.seek_each.new.members)) up same c.requires.bounded

pub returns-in-SeekLowerBound-clause-run : goal.returns-in-SeekLowerBound-clause-run
returns-in-SeekLowerBound-clause-run g c =
    let leader = c.args.leader.now in
    let others = c.args.others.now in
    let th = c.args.threshold in
    let had = c.in-SeekLowerBound.ensures in
    let is : to_z w64 (of_z w64 th) ≡ th = to_z-of_z w64 th c.ranges.threshold in
    let same = reached_common c.args.doc leader others c.seek_each.new.members c.requires.here c.requires.valid had.valid had.entries
    c.seek-reached.new.self c.in-SeekLowerBound.bound had.answer.1 had.answer.2 c.seek-reached.ensures.entries in
    rw is (stays (goal.F-step g) (common_left (leader ∷ others)) (common_left (c.seek-reached.new.self ∷ c.seek_each.new.members)) th c.args.callback.now same)

pub returns-in-SeekLowerBound-clause-callable : goal.returns-in-SeekLowerBound-clause-callable
returns-in-SeekLowerBound-clause-callable g c =
    let leader = c.args.leader.now in
    let others = c.args.others.now in
    let th = c.args.threshold in
    let had = c.in-SeekLowerBound.ensures in
    let is : to_z w64 (of_z w64 th) ≡ th = to_z-of_z w64 th c.ranges.threshold in
    let same = reached_common c.args.doc leader others c.seek_each.new.members c.requires.here c.requires.valid had.valid had.entries
    c.seek-reached.new.self c.in-SeekLowerBound.bound had.answer.1 had.answer.2 c.seek-reached.ensures.entries in
    rw is (subst (λ (l : List Entry). MayPrune (InRange (goal.F-step g)) (goal.F-pre g) th c.args.callback.now l) (sym same) c.requires.callable)

-- ---- all stand on it

pub score_all-score-requires-clause-valid : goal.score_all-score-requires-clause-valid
score_all-score-requires-clause-valid g c =
    All-cons IsTermScorer c.args.leader.now c.seek_each.new.members (All-head IsTermScorer c.args.leader.now c.args.others.now c.requires.valid) c.in-Found.ensures.valid

pub score_all-score-requires-clause-here : goal.score_all-score-requires-clause-here
score_all-score-requires-clause-here g c =
    All-cons (λ s. head_document (scored_left s) < TERMINATED) c.args.leader.now c.seek_each.new.members (omega (arith, c.requires.here, c.requires.below))
    (λ k d l. omega (arith, (c.in-Found.ensures.answer k d l).1, c.requires.below))

pub call_at-after-requires : goal.call_at-after-requires
call_at-after-requires g c =
    let step = goal.F-step g in
    let pre = goal.F-pre g in
    let leader = c.args.leader.now in
    let others = c.args.others.now in
    let new = c.seek_each.new.members in
    let had = c.in-Found.ensures in
    let doc = c.args.doc in
    let th = c.args.threshold in
    let f = c.args.callback.now in
    let is : to_z w64 (of_z w64 th) ≡ th = to_z-of_z w64 th c.ranges.threshold in
    let score = c.score_all-score.result in
    let is_score : to_z w64 (of_z w64 score) ≡ score = to_z-of_z w64 score (record { sfits = c.score_all-score.type_inv }) in
    let sum = held_sum (map head_score (map scored_left (leader ∷ new))) in
    let summed : score ≡ pos sum = c.score_all-score.ensures in
    let first = first_common doc leader others new c.requires.here c.requires.valid had.valid had.entries c.requires.below had.answer in
    let may : MayTurn pre th f doc sum = (subst (λ (l : List Entry). MayPrune (InRange step) pre th f l) first c.requires.callable).0 in
    rw (is, is_score) (subst (λ (s : ℤ). th <ℤ s → pre f doc s) (sym summed) may)

pub advance-next-requires : goal.advance-next-requires
advance-next-requires g c = record { valid = All-head IsTermScorer c.args.leader.now c.args.others.now c.requires.valid }

pub returns-in-Found-clause-valid : goal.returns-in-Found-clause-valid
returns-in-Found-clause-valid g c = All-cons IsTermScorer c.advance-next.new.self c.seek_each.new.members c.advance-next.ensures.valid c.in-Found.ensures.valid

pub returns-in-Found-clause-here : goal.returns-in-Found-clause-here
returns-in-Found-clause-here g c = c.advance-next.ensures.head

pub returns-in-Found-clause-later : goal.returns-in-Found-clause-later
returns-in-Found-clause-later g c =
    let leader = c.args.leader.now in
    let first = AreEntries-scored leader (All-head IsTermScorer leader c.args.others.now c.requires.valid) in
    omega (
      arith,
      c.requires.here,
      next_later (scored_limits leader) (scored_left leader) first (omega (arith, c.requires.here, c.requires.below)),
      c.advance-next.ensures.head,
      ap head_document c.advance-next.ensures.entries,
    )

pub returns-in-Found-clause-bounded : goal.returns-in-Found-clause-bounded
returns-in-Found-clause-bounded g c =
    let leader = c.args.leader.now in
    let others = c.args.others.now in
    let new = c.seek_each.new.members in
    let had = c.in-Found.ensures in
    let doc = c.args.doc in
    let sum = held_sum (map head_score (map scored_left (leader ∷ new))) in
    let first = first_common doc leader others new c.requires.here c.requires.valid had.valid had.entries c.requires.below had.answer in
    let left = stepped_common doc leader others new c.requires.here c.requires.valid had.valid had.entries c.advance-next.new.self c.requires.below
    c.advance-next.ensures.entries in
    let rises = AreEntries-scored leader (All-head IsTermScorer leader others c.requires.valid) in
    let up : doc ≤ c.advance-next.result = omega (
      arith,
      c.requires.here,
      next_later (scored_limits leader) (scored_left leader) rises (omega (arith, c.requires.here, c.requires.below)),
      c.advance-next.ensures.head,
      ap head_document c.advance-next.ensures.entries,
    ) in
    bounded_tail doc c.advance-next.result c.args.stretch.next c.args.stretch.bound (scored doc sum) (common_left (leader ∷ others))
    (common_left (c.advance-next.new.self ∷ new)) up
    (first ∙ ap (λ (l : List Entry). scored doc sum ∷ l) (sym left)) c.requires.bounded

pub returns-in-Found-clause-run : goal.returns-in-Found-clause-run
returns-in-Found-clause-run g c =
    let step = goal.F-step g in
    let leader = c.args.leader.now in
    let others = c.args.others.now in
    let new = c.seek_each.new.members in
    let had = c.in-Found.ensures in
    let doc = c.args.doc in
    let th = c.args.threshold in
    let f = c.args.callback.now in
    let is : to_z w64 (of_z w64 th) ≡ th = to_z-of_z w64 th c.ranges.threshold in
    let score = c.score_all-score.result in
    let is_score : to_z w64 (of_z w64 score) ≡ score = to_z-of_z w64 score (record { sfits = c.score_all-score.type_inv }) in
    let bar = c.call_at-after.result in
    let after = c.call_at-after.new.callback in
    let is_bar : to_z w64 (of_z w64 bar) ≡ bar = to_z-of_z w64 bar (record { sfits = c.call_at-after.type_inv }) in
    let sum = held_sum (map head_score (map scored_left (leader ∷ new))) in
    let summed : score ≡ pos sum = c.score_all-score.ensures in
    let first = first_common doc leader others new c.requires.here c.requires.valid had.valid had.entries c.requires.below had.answer in
    let left = stepped_common doc leader others new c.requires.here c.requires.valid had.valid had.entries c.advance-next.new.self c.requires.below
    c.advance-next.ensures.entries in
    let made : Turn (InRange step) th f doc score bar after = rw (is, is_score) at c.call_at-after.ensures in
    let turn : Turn (InRange step) th f doc (pos sum) bar after = subst (λ (s : ℤ). Turn (InRange step) th f doc s bar after) summed made in
    rw is_bar (scores step th bar f after (scored doc sum) (common_left (leader ∷ others)) (common_left (c.advance-next.new.self ∷ new))
    (first ∙ ap (λ (l : List Entry). scored doc sum ∷ l) (sym left)) turn)

pub returns-in-Found-clause-callable : goal.returns-in-Found-clause-callable
returns-in-Found-clause-callable g c =
    let step = goal.F-step g in
    let leader = c.args.leader.now in
    let others = c.args.others.now in
    let new = c.seek_each.new.members in
    let had = c.in-Found.ensures in
    let doc = c.args.doc in
    let th = c.args.threshold in
    let f = c.args.callback.now in
    let is : to_z w64 (of_z w64 th) ≡ th = to_z-of_z w64 th c.ranges.threshold in
    let score = c.score_all-score.result in
    let is_score : to_z w64 (of_z w64 score) ≡ score = to_z-of_z w64 score (record { sfits = c.score_all-score.type_inv }) in
    let bar = c.call_at-after.result in
    let after = c.call_at-after.new.callback in
    let is_bar : to_z w64 (of_z w64 bar) ≡ bar = to_z-of_z w64 bar (record { sfits = c.call_at-after.type_inv }) in
    let sum = held_sum (map head_score (map scored_left (leader ∷ new))) in
    let summed : score ≡ pos sum = c.score_all-score.ensures in
    let first = first_common doc leader others new c.requires.here c.requires.valid had.valid had.entries c.requires.below had.answer in
    let left = stepped_common doc leader others new c.requires.here c.requires.valid had.valid had.entries c.advance-next.new.self c.requires.below
    c.advance-next.ensures.entries in
    let made : Turn (InRange step) th f doc score bar after = rw (is, is_score) at c.call_at-after.ensures in
    let turn : Turn (InRange step) th f doc (pos sum) bar after = subst (λ (s : ℤ). Turn (InRange step) th f doc s bar after) summed made in
    rw is_bar (may_score step th bar f after (scored doc sum) (common_left (leader ∷ others)) (common_left (c.advance-next.new.self ∷ new))
    (first ∙ ap (λ (l : List Entry). scored doc sum ∷ l) (sym left)) (goal.F-pre g) turn c.requires.callable)
