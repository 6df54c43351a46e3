-- Lists cut to one document after another, as steps of the run over U.
use Rattle.std.proofs.Common.{◌≡◌, ◌∙◌, ℕ, ℤ, zero, suc, ◌<◌, ◌≤◌, ◌<ℤ◌, ◌≤ℤ◌, List, [], ◌∷◌, length, get_or, pos, ap, ap₂, arith, inl, inr, refl, subst}
use Rattle.std.proofs.Common.{sym, map}
use Rattle.std.proofs.lemmas.Bool.{cases_lt, false≢true}
use Rattle.qm_term.specs.Cells.{cuts}
use Rattle.qm_term.specs.Heads.{no_member}
use Rattle.qm_term.specs.Members.{AreMembers, IsMember, Member, lists_of}
use Rattle.qm_term.specs.Pivot.{AreCut, Held, Passes, Scores, blockbound, cut, head}
use Rattle.qm_term.proofs.WandBounds.{cut_blockbound, cut_blockbound_le, cut_held, cut_members, has-from_below, low_le}
use Rattle.qm_term.proofs.WandScores.{cut_scores}
use Rattle.qm_term.proofs.WandSteps.{passes_cut}
use Rattle.qm_docset.specs.Entry.{Entry, from}
use Rattle.qm_docset.specs.Gather.{IsBare, scores_at}
use Rattle.qm_docset.specs.EntryFacts.{from-from, from-reached}
use Rattle.qm_docset.specs.SeekFacts.{scores_at-from_past}
use Rattle.qm_docset.proofs.ExclusionLemmas.{has_document-from}

pub AreCut-cuts : (t : ℕ) (ms : List Member) → AreCut t ms (cuts t ms)
AreCut-cuts t [] = tt
AreCut-cuts t (m ∷ ms) = (inr refl, AreCut-cuts t ms)

-- ---- a list that is cut again

pub cut_cut : (s t : ℕ) (m : Member) → s ≤ t → cut t (cut s m) ≡ cut t m
cut_cut s t m h = ap (λ (xs : List Entry). record { entries = xs; blocks = m.blocks; top = m.top }) (from-from s t m.entries h)

pub cuts_cuts : (s t : ℕ) (ms : List Member) → s ≤ t → cuts t (cuts s ms) ≡ cuts t ms
cuts_cuts s t [] h = refl
cuts_cuts s t (m ∷ ms) h = ap₂ (λ (x : Member) (xs : List Member). x ∷ xs) (cut_cut s t m h) (cuts_cuts s t ms h)

pub AreCut-more : (s t : ℕ) (ms : List Member) → s ≤ t → AreCut t (cuts s ms) (cuts t ms)
AreCut-more s t ms h = subst (λ (xs : List Member). AreCut t (cuts s ms) xs) (cuts_cuts s t ms h) (AreCut-cuts t (cuts s ms))

pub cuts_members : (t : ℕ) (ms : List Member) → AreMembers ms → AreMembers (cuts t ms)
cuts_members t ms h = cut_members t ms (cuts t ms) h (AreCut-cuts t ms)

-- a list that stands at the document or past it stays
pub cut_all : (t : ℕ) (m : Member) → IsMember m → t ≤ head m → cut t m ≡ m
cut_all t m h a = ap (λ (xs : List Entry). record { entries = xs; blocks = m.blocks; top = m.top })
    (from-reached t 0 h.limits m.entries a h.entries)

pub cuts_all : (t : ℕ) (ms : List Member) → AreMembers ms → ((k : ℕ) → k < length ms → t ≤ head (get_or ms k no_member)) → cuts t ms ≡ ms
cuts_all t [] h a = refl
cuts_all t (m ∷ ms) h a = ap₂ (λ (x : Member) (xs : List Member). x ∷ xs) (cut_all t m h.0 (a zero (omega arith)))
    (cuts_all t ms h.1 (λ k l. a (suc k) (omega arith)))

-- ---- what is left of the documents

pub held_from : (t d : ℕ) (ms : List Member) → Held d (cuts t ms) → t ≤ d
held_from t d [] k = absurd k
held_from t d (m ∷ ms) k =
    elim k [
      | inl y ↦ elim (cases_lt d t) [
        | inl a ↦ absurd (false≢true (sym (has-from_below t d m.entries a) ∙ y))
        | inr a ↦ a
      ]
      | inr y ↦ held_from t d ms y
    ]

pub held_cuts : (t d : ℕ) (ms : List Member) → t ≤ d → Held d ms → Held d (cuts t ms)
held_cuts t d [] a k = k
held_cuts t d (m ∷ ms) a k = elim k [ inl y ↦ inl (has_document-from t d m.entries a ∙ y) | inr y ↦ inr (held_cuts t d ms a y) ]

pub cuts_held : (t d : ℕ) (ms : List Member) → AreMembers ms → Held d (cuts t ms) → Held d ms
cuts_held t d ms h k = cut_held t d ms (cuts t ms) h (AreCut-cuts t ms) k

lists_cuts : (t : ℕ) (ms : List Member) → lists_of (cuts t ms) ≡ map (from t) (lists_of ms)
lists_cuts t [] = refl
lists_cuts t (m ∷ ms) = ap (λ ess. from t m.entries ∷ ess) (lists_cuts t ms)

bare_cuts : (t : ℕ) (ms : List Member) → IsBare 1 t (lists_of (cuts t ms))
bare_cuts t ms = λ d l. omega (arith, ap length (ap (scores_at d) (lists_cuts t ms) ∙ scores_at-from_past d t (lists_of ms) l))

-- ---- the steps

-- documents whose blocks are not above the threshold are passed
pub passes_cuts : (th : ℤ) (s t : ℕ) (ms : List Member) → AreMembers ms → s ≤ t →
    ((d : ℕ) → s ≤ d → d < t → Held d ms → pos (blockbound d ms) ≤ℤ th) → Passes th t (cuts s ms) (cuts t ms)
passes_cuts th s t ms h more low =
    passes_cut th t (cuts s ms) (cuts t ms) (cuts_members s ms h) (AreCut-more s t ms more) (λ d a held.
    low_le th (blockbound d (cuts s ms)) (blockbound d ms) (cut_blockbound_le s d ms (cuts s ms) h (AreCut-cuts s ms))
    (low d (held_from s d ms held) a (cuts_held s d ms h held)))

-- a document whose blocks are above it is scored
pub scores_cuts : (th : ℤ) (p : ℕ) (ms : List Member) → AreMembers ms → Held p ms → th <ℤ pos (blockbound p ms) → Scores th p (cuts p ms) (cuts (suc p) ms)
scores_cuts th p ms h held above =
    let ls = cuts p ms in
    let ns = cuts (suc p) ms in
    let l = AreCut-more p (suc p) ms (omega arith) in
    record {
      held = held_cuts p p ms (omega arith) held;
      worth = subst (λ (n : ℕ). th <ℤ pos n) (sym (cut_blockbound p p ms ls (AreCut-cuts p ms) (omega arith))) above;
      low = λ d a k. absurd (omega (arith, a, held_from p d ms k));
      rest = bare_cuts (suc p) ms;
      scores = λ d a. cut_scores (suc p) d ls ns l a;
      bounds = λ d a. cut_blockbound (suc p) d ls ns l a;
    }
