-- A union that stands on its first document goes on.
use Rattle.std.proofs.Common.{◌≡◌, ℕ, ◌+◌, ◌<◌, ◌≤◌, Bool, true, false, All, List, [], ◌∷◌, drop, map, min, slice_get, Some, None, refl, ap, sym, subst, ◌∙◌}
use Rattle.std.proofs.Common.{inl, inr, arith}
use Rattle.std.proofs.lemmas.Bool.{cases_lt, le-leb, lt-leb}
use Rattle.std.proofs.lemmas.List.Elements.{All-head, All-tail}
use Rattle.qm_docset.specs.Entry.{Entry, Limits, AreEntries, from, head_document, head_score}
use Rattle.qm_docset.specs.EntryFacts.{AreEntries-from_low, from-next}
use Rattle.qm_docset.specs.Gather.{AreMembers, gather, scores_at}
use Rattle.qm_docset.specs.Listed.{IsNamed}
use Rattle.qm_docset.specs.ListedFacts.{listed-first}
use Rattle.qm_docset.specs.SeekFacts.{scores_at-from}
use Rattle.qm_docset.specs.declared.numbers.TheConstants.{TERMINATED}
use Rattle.qm_docset.proofs.MemberEntries.{first-from_Some, none-from_None}
use Rattle.qm_docset.proofs.MembersLemmas.{IsFirst}
use Rattle.qm_combine.specs.Union.{least_head}
use Rattle.qm_combine.specs.Window.{window_end, window_from, window_has}
use Rattle.qm_combine.specs.Windowed.{IsWindowed, windowed, windowed_entry, windowed_has}
use Rattle.qm_combine.specs.declared.union.window.Window.{Window}
use Rattle.qm_combine.proofs.Refilled.{scores_at-ended, window_has-past}
use Rattle.qm_combine.proofs.Uniting.{scores_at-ahead}
use Rattle.qm_combine.proofs.Windows.{enough_have-none, windowed-next, windowed-passed}

-- what a window answers
pub answers_none : {C : Type 0} (w : Window C) (t : ℕ) → None ≡ slice_get (window_from w t) 0 → (d : ℕ) → t ≤ d → window_has w d ≡ false
answers_none w t read d past = elim (cases_lt d (window_end w)) [
  | inl inside ↦ none-from_None (window_has w) t (window_end w) read d past inside
  | inr behind ↦ window_has-past w d behind
]

pub answers_first : {C : Type 0} (w : Window C) (t d : ℕ) → Some d ≡ slice_get (window_from w t) 0 → IsFirst (window_has w) t (window_end w) d
answers_first w t d read = first-from_Some (window_has w) t (window_end w) d read

-- past the document that a list begins with lie all others
pub from_here : (doc : ℕ) (limits : Limits) (es : List Entry) → AreEntries 0 limits es → doc ≡ head_document es → from (doc + 1) es ≡ drop 1 es
from_here doc limits es a here = ap (λ d. from (d + 1) es) here ∙ from-next 0 limits es a

-- members that stand at or past a target
pub least_head-reached : {X : Type 0} (placed : X → Type 0) (list : X → List Entry) (t : ℕ) (xs : List X) → t ≤ TERMINATED
    → All (λ m. placed m × (t ≤ head_document (list m))) xs → t ≤ least_head (map list xs)
least_head-reached placed list t [] h reached = h
least_head-reached {X} placed list t (x ∷ xs) h reached =
    let Reached : X → Type 0 = λ m. placed m × (t ≤ head_document (list m)) in
    omega (arith, (All-head Reached x xs reached).1, least_head-reached placed list t xs h (All-tail Reached x xs reached))

module _ (least : ℕ) (some : 1 ≤ least) (has : ℕ → Bool) (score : ℕ → ℕ) (doc ahead : ℕ) (combined : List ℕ
    → ℕ) (limits : Limits) (bounds : List Limits) (ess : List (List Entry)) (members : AreMembers bounds ess)
    (w : IsWindowed least has score doc ahead combined limits ess) where
  -- In its window it goes on to the first document at or past a target.
  pub goes_next : (t next high : ℕ) → doc ≤ t → IsFirst has t high next
      → (windowed least has score next combined ess ≡ from t (windowed least has score doc combined ess))
      × IsWindowed least has score next ahead combined limits ess
  goes_next t next high low first =
      let before = w.behind next first.member in
      let moved = windowed-next least some has score combined bounds ess members doc t next low first.above
      first.none_before first.member (omega (arith, w.next)) in (
        moved.0,
        record {
          first = sym moved.1;
          here = λ below. first.member;
          before = omega arith;
          next = w.next;
          behind = w.behind;
          ascending = subst (AreEntries 0 limits) (sym moved.0) (AreEntries-from_low t 0 limits _ w.ascending);
        },
      )

  -- .. and to any that the window has
  pub stands_on : (next : ℕ) → doc ≤ next → has next ≡ true
      → (windowed least has score next combined ess ≡ from next (windowed least has score doc combined ess))
      × IsWindowed least has score next ahead combined limits ess
  stands_on next low there = goes_next next next (next + 1) low
      (record { above = omega arith; below = omega arith; member = there; none_before = λ d past before. absurd (omega (arith, past, before)) })

  -- From there on the members have all that is left, where the window has nothing there.
  pub goes_on : (t : ℕ) → doc ≤ t → min t TERMINATED ≤ ahead → ((d : ℕ) → t ≤ d → has d ≡ false)
      → gather least combined ess ≡ from t (windowed least has score doc combined ess)
  goes_on t low reach quiet =
      let dropped : (d : ℕ) → d < t → scores_at d ess ≡ [] = λ d below. elim (cases_lt d TERMINATED) [
        | inr ended ↦ scores_at-ended d bounds ess members ended
        | inl document ↦ scores_at-ahead d bounds ess members (omega (arith, w.next))
      ] in
      windowed-passed least some has score combined bounds ess members doc t ess low quiet dropped (λ d past. refl)

  -- Where the members were sent to a target past the window, they have what is left from there on.
  pub goes_past : (t : ℕ) (others : List Limits) (rest : List (List Entry)) → AreMembers others rest → doc ≤ t → ((d : ℕ) → t ≤ d → has d ≡ false)
      → t ≤ least_head rest → map (from t) rest ≡ map (from t) ess → gather least combined rest ≡ from t (windowed least has score doc combined ess)
  goes_past t others rest after low quiet reached same =
      windowed-passed least some has score combined bounds ess members doc t rest low quiet
      (λ d below. scores_at-ahead d others rest after (omega arith))
      (λ d past. sym (scores_at-from d t rest past) ∙ ap (scores_at d) same ∙ scores_at-from d t ess past)

  -- The score that it keeps is that of its document.
  pub score_here : doc < TERMINATED → head_score (windowed least has score doc combined ess) ≡ score doc
  score_here below =
      let made = windowed_entry has score combined ess in
      let named : IsNamed made = λ d. refl in
      let here = w.here below in
      let past = w.behind doc here in
      let kept : windowed_has least has doc ess doc ≡ true = rw (le-leb doc doc (omega arith), here) refl in
      let bare : (d : ℕ) → d < doc
      → windowed_has least has doc ess d ≡ false = λ d before. rw (lt-leb doc d before)
      (enough_have-none least some ess d (scores_at-ahead d bounds ess members (omega (arith, w.next)))) in
      ap head_score (listed-first doc (windowed_has least has doc ess) made below named bare kept) ∙ rw here refl
