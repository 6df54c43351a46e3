-- The scores of a row of scorers.
use Rattle.std.proofs.Common.{◌≡◌, ℕ, ◌+◌, ◌<◌, ◌≤◌, List, [], ◌∷◌, drop, false, inl, inr, sum_by, true, refl, arith}
use Rattle.std.specs.Prelude.{All, nat_le}
use Rattle.std.proofs.lemmas.Bool.{cases_lt, le-leb, lt-leb}
use Rattle.qm_docset.specs.declared.numbers.TheConstants.{TERMINATED}
use Rattle.std.proofs.lemmas.List.Elements.{All-head, All-tail}
use Rattle.std.proofs.lemmas.List.Sums.{sum_by-cons}
use Rattle.qm_term.specs.Members.{Block, IsMember, Member, bound_at, end_at}
use Rattle.qm_term.specs.RunScorers.{IsRunScorer, first_score, wand_member}
use Rattle.qm_term.specs.declared.norms.Norms.{Ghosts as NormGhosts}
use Rattle.qm_term.specs.declared.wand.front.TermScorerWithMaxScore.{TermScorerWithMaxScore}
use Rattle.qm_term.proofs.WandMembers.{IsMember-scorer, top-member, top_small}
use Rattle.qm_docset.specs.Entry.{AreEntries, Entry, Limits, greatest_score, head_document, head_score}
use Rattle.qm_term.proofs.WandBounds.{IsBelow}
use Rattle.qm_docset.specs.EntryFacts.{head_document-bounds}

head_score_le : (bs : List Block) (top : ℕ) (es : List Entry) → All (IsBelow bs) es → ((d : ℕ) → bound_at d bs ≤ top) → head_score es ≤ top
head_score_le bs top [] h k = omega arith
head_score_le bs top (e ∷ es) h k = omega (arith, All-head (IsBelow bs) e es h, k e.document)

-- no score is above the bound of its block, and no bound above the greatest score
pub law : {N : Type 0} {G : NormGhosts N} (s : TermScorerWithMaxScore N G) → IsRunScorer s → IsMember (wand_member s)
unfolding wand_member
law s h = IsMember-scorer s.scorer h.valid

pub member_score_le : (m : Member) → IsMember m → first_score m ≤ m.top
member_score_le m h = head_score_le m.blocks m.top m.entries h.bounded h.bounds

pub score_le_top : {N : Type 0} {G : NormGhosts N} (s : TermScorerWithMaxScore N G) → IsRunScorer s → first_score (wand_member s) ≤ (wand_member s).top
score_le_top s h = member_score_le (wand_member s) (law s h)

pub scores_le_tops : {N : Type 0} {G : NormGhosts N} (ss : List (TermScorerWithMaxScore N G)) → All IsRunScorer ss →
    sum_by (λ s. first_score (wand_member s)) ss ≤ sum_by (λ s. (wand_member s).top) ss
scores_le_tops [] h = omega arith
scores_le_tops (s ∷ ss) h =
    omega (
      arith,
      sum_by-cons (λ s. first_score (wand_member s)) s ss,
      sum_by-cons (λ s. (wand_member s).top) s ss,
      score_le_top s (All-head IsRunScorer s ss h),
      scores_le_tops ss (All-tail IsRunScorer s ss h),
    )

pub top_le : {N : Type 0} {G : NormGhosts N} (s : TermScorerWithMaxScore N G) → (wand_member s).top ≤ greatest_score
unfolding wand_member
top_le s = omega (arith, top-member s.scorer, top_small s.scorer)

-- ---- what moves on

pub next_later : (limits : Limits) (es : List Entry) → AreEntries 0 limits es → head_document es < TERMINATED → head_document es < head_document (drop 1 es)
next_later limits [] h below = absurd (omega arith)
next_later limits (e ∷ es) h below = omega (arith, (head_document-bounds (e.document + 1) limits es (omega arith) h.others).0)

-- up to a block's end the block is the same
pub same_end : (p d : ℕ) (bs : List Block) → p ≤ d → d ≤ end_at p bs → end_at d bs ≡ end_at p bs
unfolding end_at
same_end p d [] h k = refl
same_end p d (b ∷ bs) h k =
    elim (cases_lt b.last p) [
      | inl past ↦
          let x : nat_le p b.last ≡ false = lt-leb p b.last past in
          let y : nat_le d b.last ≡ false = lt-leb d b.last (omega arith) in
          rw (x, y) (same_end p d bs h (rw x at k))
      | inr here ↦
          let x : nat_le p b.last ≡ true = le-leb p b.last here in
          let l : d ≤ b.last = rw x at k in
          let y : nat_le d b.last ≡ true = le-leb d b.last l in
          rw (x, y) refl
    ]
