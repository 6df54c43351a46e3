-- Runs over the documents that all of several scorers have.
use Rattle.std.proofs.Common.{◌≡◌, ◌∙◌, ℕ, ℤ, ◌+◌, ◌<◌, ◌≤◌, ◌≤ℤ◌, false, true, List, [], ◌∷◌, ◌++◌, length, ltb, map, max, pos, replicate, sum}
use Rattle.std.proofs.Common.{ap, arith, inl, inr, length-append, refl, subst, sym}
use Rattle.std.specs.Prelude.{All, Any, drop, nat_le}
use Rattle.std.proofs.lemmas.Bool.{cases_eq, cases_lt, cond-false, cond-true, le-ltb, lt-ltb}
use Rattle.std.proofs.lemmas.List.Elements.{All-cons, All-filter, All-head, All-map, All-tail, All-weaker}
use Rattle.std.proofs.lemmas.List.Sums.{sum_by-append, sum_by-cons}
use Rattle.qm_combine.proofs.Leading.{common_entries-caught_up, common_entries-cut, common_entries-passed, leader_bound-common_entries, members_of}
use Rattle.qm_combine.specs.HeldSum.{held_limits, held_sum}
use Rattle.qm_combine.specs.HeldSumFacts.{AreEntries-intersection}
use Rattle.qm_combine.specs.Windowed.{scores_of as scores_in}
use Rattle.qm_docset.proofs.CommonEntries.{common_entries-first}
use Rattle.qm_docset.specs.Entry.{AreEntries, Entry, Limits, below, from, greatest_score, head_document, head_score}
use Rattle.qm_docset.specs.EntryFacts.{AreEntries-below, AreEntries-head, entries-at_end, from-next}
use Rattle.qm_docset.specs.Gather.{common_entries, gather, gathered, scored, scores_at}
use Rattle.qm_docset.specs.GatherFacts.{entries_of-before, entries_of-here, entries_of-nil, entries_of-other, scores_at-cons, scores_at-nil}
use Rattle.qm_docset.specs.declared.numbers.TheConstants.{TERMINATED}
use Rattle.qm_term.specs.Conjunction.{IsBoundedIn, PrunesBy, TurnsInto, common_left, turns_of}
use Rattle.qm_term.specs.Members.{Block, IsMember, Member, bound_at}
use Rattle.qm_term.specs.Pivot.{block_at, head, looked_at, no_block}
use Rattle.qm_term.specs.RunCounts.{calls_of, count_above}
use Rattle.qm_term.specs.Runs.{InRange, MayPrune, Plain, Turn}
use Rattle.qm_term.specs.TermScorer.{IsTermScorer, scored_left, scored_limits}
use Rattle.qm_term.specs.TermScorerFacts.{AreEntries-scored}
use Rattle.qm_term.specs.declared.norms.Norms.{Ghosts as NormGhosts}
use Rattle.qm_term.specs.declared.term_scorer.TermScorer.{TermScorer}
use Rattle.qm_term.proofs.WandBounds.{end_at_le, low_le, same_block}
use Rattle.qm_term.proofs.WandPlain.{at_most_one, count-cons, count_low, may_unskip, plain_skip}
use Rattle.qm_term.proofs.WandScores.{Each, below-from, each_below}
use Rattle.qm_term.proofs.WandSingle.{each_here}
use Rattle.qm_term.proofs.WandTurns.{all_each}

-- ---- the block looked at from a document on

looks_in : (t : ℕ) (m : Member) → head m < TERMINATED → looked_at t m ≡ block_at (max t (head m)) m.blocks
looks_in t m inside = cond-true (ltb (head m) TERMINATED) (block_at (max t (head m)) m.blocks) no_block (lt-ltb (head m) TERMINATED inside)

-- it ends there or later
pub looks_on : (t : ℕ) (m : Member) → t < TERMINATED → t ≤ (looked_at t m).last
looks_on t m below = elim (cases_lt (head m) TERMINATED) [
  | inl inside ↦ omega (arith, ap (λ (b : Block). b.last) (looks_in t m inside), end_at_le (max t (head m)) m.blocks (omega arith))
  | inr ended ↦ omega (
    arith,
    ap (λ (b : Block). b.last) (cond-false (ltb (head m) TERMINATED) (block_at (max t (head m)) m.blocks) no_block (le-ltb (head m) TERMINATED ended)),
  )
]

-- and bounds what is in it
pub looks_bounds : (t : ℕ) (m : Member) → IsMember m →
    All (λ e. t ≤ e.document → e.document ≤ (looked_at t m).last → e.score ≤ (looked_at t m).bound) m.entries
looks_bounds t m h = elim (cases_lt (head m) TERMINATED) [
  | inl inside ↦
      let is = looks_in t m inside in
      all_each (λ e. t ≤ e.document → e.document ≤ (looked_at t m).last → e.score ≤ (looked_at t m).bound) m.entries
      (each_here (λ e. t ≤ e.document → e.document ≤ (looked_at t m).last → e.score ≤ (looked_at t m).bound) m h (λ e from bounded past within.
      let same : bound_at e.document m.blocks ≡ bound_at (max t (head m)) m.blocks =
      same_block (max t (head m)) e.document m.blocks (omega arith) (omega (arith, within, ap (λ (b : Block). b.last) is)) in
      omega (arith, bounded, same, ap (λ (b : Block). b.bound) is)))
  | inr ended ↦
      let none : m.entries ≡ [] = entries-at_end 0 h.limits m.entries h.entries ended in
      subst (All (λ e. t ≤ e.document → e.document ≤ (looked_at t m).last → e.score ≤ (looked_at t m).bound)) (sym none) (λ k d l. absurd (omega (arith, l)))
]

-- ---- bounds of a stretch

-- they hold of fewer documents
pub bounded_from : (low later next bound t : ℕ) (es : List Entry) → low ≤ later → IsBoundedIn low next bound es → IsBoundedIn later next bound (from t es)
unfolding from
bounded_from low later next bound t es up h =
    All-filter (λ e. nat_le t e.document) (λ e. later ≤ e.document → e.document < next → e.score ≤ bound) es
    (λ k d l past within. h k d l (omega (arith, past, up)) within)

pub bounded_later : (low later next bound : ℕ) (es left : List Entry) → low ≤ later → left ≡ es → IsBoundedIn low next bound es → IsBoundedIn later next bound left
bounded_later low later next bound es left up same h =
    subst (IsBoundedIn later next bound) (sym same) (λ k d l past within. h k d l (omega (arith, past, up)) within)

pub bounded_tail : (low later next bound : ℕ) (e : Entry) (es left : List Entry) → low ≤ later → es ≡ e ∷ left →
    IsBoundedIn low next bound es → IsBoundedIn later next bound left
bounded_tail low later next bound e es left up is h =
    bounded_later low later next bound left left up refl
    (All-tail (λ x. low ≤ x.document → x.document < next → x.score ≤ bound) e left (subst (IsBoundedIn low next bound) is h))

-- so does what a list says of one document
pub score_bounded : (d low next bound start : ℕ) (limits : Limits) (es : List Entry) → AreEntries start limits es →
    IsBoundedIn low next bound es → low ≤ d → d < next → sum (scores_in d es) ≤ bound
score_bounded d low next bound start limits [] h b from to = rw (entries_of-nil d) (omega arith)
score_bounded d low next bound start limits (e ∷ es) h b from to =
    elim (cases_eq e.document d) [
      | inl here ↦
          let one : e.score ≤ bound = All-head (λ x. low ≤ x.document → x.document < next → x.score ≤ bound) e es b (omega arith) (omega arith) in
          rw (entries_of-here d e es here, entries_of-before d (e.document + 1) limits es (omega arith) h.others) (omega (arith, sum_by-cons (λ x. x) e.score [], one))
      | inr other ↦ rw (entries_of-other d e es other) (score_bounded d low next bound (e.document + 1) limits es h.others
          (All-tail (λ x. low ≤ x.document → x.document < next → x.score ≤ bound) e es b) from to)
    ]

-- the scores of a document in one list more
pub sum-push : (d : ℕ) (ess : List (List Entry)) (es : List Entry) → sum (scores_at d (ess ++ es ∷ [])) ≡ sum (scores_at d ess) + sum (scores_in d es)
sum-push d [] es = omega (
  arith,
  ap sum (scores_at-cons d es []),
  ap (λ (r : List ℕ). sum (scores_in d es ++ r)) (scores_at-nil d),
  sum_by-append (λ x. x) (scores_in d es) [],
  ap sum (scores_at-nil d),
)
sum-push d (xs ∷ ess) es = omega (
  arith,
  ap sum (scores_at-cons d xs (ess ++ es ∷ [])),
  sum_by-append (λ x. x) (scores_in d xs) (scores_at d (ess ++ es ∷ [])),
  sum-push d ess es,
  ap sum (scores_at-cons d xs ess),
  sum_by-append (λ x. x) (scores_in d xs) (scores_at d ess),
)

-- what holds of each document at what is made of its scores holds of all that lists have in common
pub All-common : (P : Entry → Type 0) (combined : List ℕ → ℕ) (ess : List (List Entry)) →
    ((d : ℕ) → P (scored d (combined (scores_at d ess)))) → All P (common_entries combined ess)
unfolding gather gathered
All-common P combined ess each = All-map P (λ d. scored d (combined (scores_at d ess))) _ (λ k d l. each _)

-- a sum that is held at the greatest score is not above that
pub bounded_greatest : {N : Type 0} {G : NormGhosts N} (low next : ℕ) (ss : List (TermScorer N G)) → IsBoundedIn low next greatest_score (common_left ss)
bounded_greatest low next ss =
    All-common (λ e. low ≤ e.document → e.document < next → e.score ≤ greatest_score) held_sum (map scored_left ss) (λ d from to. omega arith)

-- ---- turns

-- no document before a target scores above a threshold that its stretch is not above
low_each : (low next bound start : ℕ) (th : ℤ) (limits : Limits) (es : List Entry) → low ≤ start → AreEntries start limits es →
    IsBoundedIn low next bound es → pos bound ≤ℤ th → Each (λ e. e.document < next → pos e.score ≤ℤ th) es
low_each low next bound start th limits [] up h b quiet = tt
low_each low next bound start th limits (e ∷ es) up h b quiet = (
  λ within. low_le th e.score bound
      (All-head (λ x. low ≤ x.document → x.document < next → x.score ≤ bound) e es b (omega (arith, h.here.from_low)) within) quiet,
  low_each low next bound (e.document + 1) th limits es (omega (arith, h.here.from_low)) h.others
      (All-tail (λ x. low ≤ x.document → x.document < next → x.score ≤ bound) e es b) quiet,
)

module _ {F : Type 0} (step : F → ℕ → ℤ → ℤ → F → Type 0) where
  -- a turn that scores nothing, and leaves what there was
  pub stays : (es left : List Entry) (th : ℤ) (f : F) → left ≡ es → TurnsInto step es th f false left th f
  stays es left th f same k h run =
      let none : k ≡ 0 + k = omega arith in
      subst (λ (n : ℕ). PrunesBy step es th f (turns_of n) h) none (subst (λ (l : List Entry). PrunesBy step l th f (turns_of k) h) same run)

  -- one that passes documents with no score above the threshold
  module _ (low next bound : ℕ) (th : ℤ) (f : F) (limits : Limits) (es : List Entry) (h : AreEntries low limits es)
      (b : IsBoundedIn low next bound es) (quiet : pos bound ≤ℤ th) where
    quiet_scores : Each (λ e. pos e.score ≤ℤ th) (below next es)
    quiet_scores = each_below (λ e. pos e.score ≤ℤ th) next es (low_each low next bound low th limits es (omega arith) h b quiet)

    parts : es ≡ below next es ++ from next es
    parts = below-from next low limits es h

    passed : (k : ℕ) (g : F) → PrunesBy step (from next es) th f (turns_of k) g → PrunesBy step es th f (turns_of k) g
    passed k g r =
        let l = below next es in
        let ths : List ℤ = replicate (length l) th ++ r.thresholds in
        record {
          thresholds = ths;
          last = r.last;
          calls = subst (λ (xs : List Entry). Plain (InRange step) th f xs ths r.last g) (sym parts)
              (plain_skip (InRange step) th r.last f g l (from next es) r.thresholds quiet_scores r.calls);
          at_least = omega (arith, ap (calls_of ths) parts, count_low (λ e. e.score) th l (from next es) r.thresholds quiet_scores, r.at_least);
          at_most = omega (arith, r.at_most, ap length parts, length-append l (from next es));
          turns = omega arith;
        }

    pub passes : TurnsInto step es th f false (from next es) th f
    passes k g r = let none : k ≡ 0 + k = omega arith in subst (λ (n : ℕ). PrunesBy step es th f (turns_of n) g) none (passed k g r)

    pub may_pass : (pre : F → ℕ → ℤ → Type 0) → MayPrune (InRange step) pre th f es → MayPrune (InRange step) pre th f (from next es)
    may_pass pre may = may_unskip (InRange step) pre th f (below next es) (from next es) quiet_scores
        (subst (λ (xs : List Entry). MayPrune (InRange step) pre th f xs) parts may)

  -- one that scores the first document
  module _ (th after : ℤ) (f g : F) (e : Entry) (es left : List Entry) (is : es ≡ e ∷ left) where
    scored_first : (k : ℕ) (h : F) → Turn (InRange step) th f e.document (pos e.score) after g →
        PrunesBy step left after g (turns_of k) h → PrunesBy step (e ∷ left) th f (turns_of (1 + k)) h
    scored_first k h turn r = record {
      thresholds = th ∷ r.thresholds;
      last = r.last;
      calls = (refl, (after, g, turn, r.calls));
      at_least = omega (arith, count-cons (λ x. x.score) th r.thresholds e left, at_most_one th e.score, r.at_least);
      at_most = omega (arith, r.at_most);
      turns = omega arith;
    }

    pub scores : Turn (InRange step) th f e.document (pos e.score) after g → TurnsInto step es th f true left after g
    scores turn k h r = subst (λ (xs : List Entry). PrunesBy step xs th f (turns_of (1 + k)) h) (sym is) (scored_first k h turn r)

    pub may_score : (pre : F → ℕ → ℤ → Type 0) → Turn (InRange step) th f e.document (pos e.score) after g →
        MayPrune (InRange step) pre th f es → MayPrune (InRange step) pre after g left
    may_score pre turn may = (subst (λ (xs : List Entry). MayPrune (InRange step) pre th f xs) is may).1 after g turn

  -- at the end nothing is left to do
  pub ended : (th : ℤ) (f : F) (es : List Entry) → es ≡ [] → PrunesBy step es th f (turns_of 0) f
  unfolding count_above
  ended th f es none = subst (λ (xs : List Entry). PrunesBy step xs th f (turns_of 0) f) (sym none)
      (record { thresholds = []; last = th; calls = (refl, refl); at_least = omega arith; at_most = omega arith; turns = omega arith })

-- ---- what a leader and the others have left in common

module _ {N : Type 0} {G : NormGhosts N} where
  -- it lies from the leader's document on
  pub AreEntries-common : (leader : TermScorer N G) (others : List (TermScorer N G)) → All IsTermScorer (leader ∷ others) →
      AreEntries (head_document (scored_left leader)) (held_limits (scored_limits leader ∷ map scored_limits others)) (common_left (leader ∷ others))
  AreEntries-common leader others valid =
      let first = AreEntries-scored leader (All-head IsTermScorer leader others valid) in
      let rest = All-tail IsTermScorer leader others valid in
      let limits = held_limits (scored_limits leader ∷ map scored_limits others) in
      let all : AreEntries 0 limits (common_left (leader ∷ others)) =
      AreEntries-intersection (scored_limits leader) (scored_left leader) scored_limits scored_left others first
      (All-weaker IsTermScorer (λ s. AreEntries 0 (scored_limits s) (scored_left s)) AreEntries-scored others rest) in
      AreEntries-below (head_document (common_left (leader ∷ others))) (head_document (scored_left leader)) limits (common_left (leader ∷ others))
      (leader_bound-common_entries IsTermScorer scored_limits scored_left AreEntries-scored held_sum (head_document (scored_left leader))
      (scored_limits leader) (scored_left leader) others (omega arith) first rest)
      (AreEntries-head 0 limits (common_left (leader ∷ others)) all)

  -- a leader that goes on to a target leaves what is from there on
  pub cut_common : (t : ℕ) (leader next : TermScorer N G) (others : List (TermScorer N G)) → t ≤ TERMINATED → All IsTermScorer (leader ∷ others) →
      scored_left next ≡ from t (scored_left leader) → common_left (next ∷ others) ≡ from t (common_left (leader ∷ others))
  cut_common t leader next others h valid is =
      ap (λ (es : List Entry). common_entries held_sum (es ∷ map scored_left others)) is
      ∙ common_entries-cut IsTermScorer scored_limits scored_left AreEntries-scored held_sum t (scored_limits leader) (scored_left leader) others h
      (AreEntries-scored leader (All-head IsTermScorer leader others valid)) (All-tail IsTermScorer leader others valid)

  module _ (doc : ℕ) (leader : TermScorer N G) (old new : List (TermScorer N G)) (here : doc ≡ head_document (scored_left leader))
      (valid : All IsTermScorer (leader ∷ old)) (others : All IsTermScorer new)
      (sought : map (from doc) (map scored_left new) ≡ map (from doc) (map scored_left old)) where
    -- others that go on to the leader's document leave all
    passed_common : common_left (leader ∷ new) ≡ common_left (leader ∷ old)
    passed_common =
        common_entries-passed IsTermScorer scored_limits scored_left AreEntries-scored held_sum doc (scored_limits leader) (scored_left leader) old new
        (omega (arith, here)) (AreEntries-scored leader (All-head IsTermScorer leader old valid)) (All-tail IsTermScorer leader old valid) others sought

    -- so does a leader that then goes on to where one of them is
    pub reached_common : (next : TermScorer N G) (bound : ℕ) → bound ≤ TERMINATED → Any (λ s. bound ≤ head_document (scored_left s)) new →
        scored_left next ≡ from bound (scored_left leader) → common_left (next ∷ new) ≡ common_left (leader ∷ old)
    reached_common next bound h one is =
        ap (λ (es : List Entry). common_entries held_sum (es ∷ map scored_left new)) is
        ∙ common_entries-caught_up IsTermScorer scored_limits scored_left AreEntries-scored held_sum bound (scored_limits leader) (scored_left leader) new h
        (AreEntries-scored leader (All-head IsTermScorer leader old valid)) others one
        ∙ passed_common

    -- where all stand on it, it is the first
    pub first_common : doc < TERMINATED → All (λ s. Unit {0} × (head_document (scored_left s) ≡ doc)) new → common_left (leader ∷ old)
        ≡ scored doc (held_sum (map head_score (map scored_left (leader ∷ new)))) ∷ from (doc + 1) (common_left (leader ∷ new))
    first_common inside stand =
        let first = AreEntries-scored leader (All-head IsTermScorer leader old valid) in
        let members = members_of IsTermScorer scored_limits scored_left AreEntries-scored held_sum (scored_limits leader) (scored_left leader) new first others in
        let heads : All (λ s. head_document (scored_left s) ≡ doc) new = λ k d l. (stand k d l).1 in
        let together : All (λ es. head_document es ≡ doc) (scored_left leader ∷ map scored_left new) =
        All-cons (λ es. head_document es ≡ doc) (scored_left leader) (map scored_left new) (sym here)
        (All-map (λ es. head_document es ≡ doc) scored_left new heads) in
        sym passed_common ∙ common_entries-first doc held_sum (scored_limits leader ∷ map scored_limits new) (scored_left leader) (map scored_left new)
        inside members together

    -- and a step of the leader leaves the others
    pub stepped_common : (next : TermScorer N G) → doc < TERMINATED → scored_left next ≡ drop 1 (scored_left leader) →
        common_left (next ∷ new) ≡ from (doc + 1) (common_left (leader ∷ new))
    stepped_common next inside is =
        cut_common (doc + 1) leader next new (omega (arith, inside)) (All-cons IsTermScorer leader new (All-head IsTermScorer leader old valid) others)
        (is ∙ sym (from-next 0 (scored_limits leader) (scored_left leader) (AreEntries-scored leader (All-head IsTermScorer leader old valid)))
        ∙ ap (λ (d : ℕ). from (d + 1) (scored_left leader)) (sym here))

  -- where the leader is at its end there is none
  pub ended_common : (leader : TermScorer N G) (others : List (TermScorer N G)) → All IsTermScorer (leader ∷ others) →
      TERMINATED ≤ head_document (scored_left leader) → common_left (leader ∷ others) ≡ []
  ended_common leader others valid end =
      entries-at_end (head_document (scored_left leader)) (held_limits (scored_limits leader ∷ map scored_limits others)) (common_left (leader ∷ others))
      (AreEntries-common leader others valid)
      (omega (
        arith,
        end,
        leader_bound-common_entries IsTermScorer scored_limits scored_left AreEntries-scored held_sum (head_document (scored_left leader))
            (scored_limits leader) (scored_left leader) others (omega arith) (AreEntries-scored leader (All-head IsTermScorer leader others valid))
            (All-tail IsTermScorer leader others valid),
      ))
