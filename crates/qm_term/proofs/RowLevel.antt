-- The first records of a row, which all stand on a document: what they score there.
use Rattle.std.proofs.Common.{◌≡◌, ◌∙◌, ℕ, zero, suc, ◌<◌, ◌≤◌, List, [], ◌∷◌, ◌++◌, false, length, get_or, leb, map, sum_by, take, true}
use Rattle.std.proofs.Common.{ap, arith, inl, inr, refl, sym}
use Rattle.std.proofs.lemmas.Bool.{cases_lt, le-leb, lt-leb}
use Rattle.std.proofs.lemmas.List.{length-map}
use Rattle.std.proofs.lemmas.List.Sums.{sum_by-cons}
use Rattle.qm_term.specs.Heads.{AreRecords, IsLevel, listed, lists, no_member}
use Rattle.qm_term.specs.Members.{AreMembers, Member}
use Rattle.qm_term.specs.Pivot.{all_on, front, front_scores, head, to, total_top}
use Rattle.qm_term.specs.RunScorers.{first_score}
use Rattle.qm_term.specs.declared.wand.heads.Head.{Head}
use Rattle.qm_term.proofs.RowAligns.{all_on-of, mapped_from-start, to_past}
use Rattle.qm_term.proofs.RowRecords.{doc_at, zeros}
use Rattle.qm_term.proofs.RunRows.{member_score_le}
use Rattle.qm_term.proofs.WandBounds.{total-cons}
use Rattle.qm_term.proofs.WandScores.{front_scores-cons, front_scores-nil}

front_here : (p : ℕ) (m : Member) → head m ≡ p → front p m ≡ first_score m ∷ []
front_here p m h = let t : leb (head m) p ≡ true = le-leb (head m) p (omega arith) in rw t refl

front_past : (p : ℕ) (m : Member) → p < head m → front p m ≡ []
front_past p m h = let t : leb (head m) p ≡ false = lt-leb (head m) p h in rw t refl

module _ (ms : List Member) (p : ℕ) where
  none_there : (hs : List Head) → ((k : ℕ) (d : Head) → k < length hs → p < head (listed ms (get_or hs k d))) → front_scores p (lists ms hs) ≡ []
  none_there [] past = front_scores-nil p
  none_there (h ∷ hs) past =
      front_scores-cons p (listed ms h) (lists ms hs)
      ∙ ap (λ xs. xs ++ front_scores p (lists ms hs)) (front_past p (listed ms h) (past 0 h (omega arith)))
      ∙ none_there hs (λ k d l. past (suc k) d (omega arith))

  scores_there : (hs : List Head) (n : ℕ) → n ≤ length hs
      → ((k : ℕ) (d : Head) → k < n → head (listed ms (get_or hs k d)) ≡ p)
      → ((k : ℕ) (d : Head) → n ≤ k → k < length hs → p < head (listed ms (get_or hs k d)))
      → map (λ h. first_score (listed ms h)) (take n hs) ≡ front_scores p (lists ms hs)
  scores_there hs zero l here past = sym (none_there hs (λ k d i. past k d (omega arith) i))
  scores_there [] (suc n) l here past = absurd (omega arith)
  scores_there (h ∷ hs) (suc n) l here past =
      let one : front p (listed ms h) ≡ first_score (listed ms h) ∷ [] = front_here p (listed ms h) (here 0 h (omega arith)) in
      let rest = scores_there hs n (omega arith) (λ k d i. here (suc k) d (omega arith)) (λ k d from i. past (suc k) d (omega arith) (omega arith)) in
      ap (λ xs. first_score (listed ms h) ∷ xs) rest
      ∙ sym (front_scores-cons p (listed ms h) (lists ms hs) ∙ ap (λ xs. xs ++ front_scores p (lists ms hs)) one)

module _ (ms : List Member) (hs : List Head) (n p : ℕ) (r : AreRecords ms hs) (level : IsLevel n p hs) where
  -- their scores are the document's
  pub level_scores : map (λ h. first_score (listed ms h)) (take n hs) ≡ front_scores p (lists ms hs)
  level_scores =
      scores_there ms p hs n level.within
      (λ k d l. sym (r.each k d (omega (arith, l, level.within))).doc ∙ level.here k d l)
      (λ k d from l. omega (arith, (r.each k d l).doc, level.others k d from l))

  at_or_past : (j : ℕ) → j < length (lists ms hs) → p ≤ head (get_or (lists ms hs) j no_member)
  at_or_past j l =
      let inside : j < length hs = omega (arith, l, length-map hs (listed ms)) in
      elim (cases_lt j n) [
        | inl less ↦ omega (arith, doc_at ms hs r j zeros inside, level.here j zeros less)
        | inr from ↦ omega (arith, doc_at ms hs r j zeros inside, level.others j zeros from inside)
      ]

  -- all lists whose head is at or before it have it, and none is moved to it
  pub level_on : all_on p (lists ms hs) ≡ true
  level_on = all_on-of p (lists ms hs) (λ j l. (to_past p (get_or (lists ms hs) j no_member) (at_or_past j l)).1)

  pub level_same : map (to p) (lists ms hs) ≡ lists ms hs
  level_same = mapped_from-start (to p) 0 (lists ms hs) (λ j from l. (to_past p (get_or (lists ms hs) j no_member) (at_or_past j l)).0)

-- no list scores more than its greatest score
pub scores_fit : (ms : List Member) (hs : List Head) (n : ℕ) → AreMembers (lists ms hs) →
    sum_by (λ h. first_score (listed ms h)) (take n hs) ≤ total_top (lists ms hs)
scores_fit ms hs zero m = omega arith
scores_fit ms [] (suc n) m = omega arith
scores_fit ms (h ∷ hs) (suc n) m =
    omega (
      arith,
      sum_by-cons (λ x. first_score (listed ms x)) h (take n hs),
      total-cons (λ (x : Member). x.top) (listed ms h) (lists ms hs),
      member_score_le (listed ms h) m.0,
      scores_fit ms hs n m.1,
    )
