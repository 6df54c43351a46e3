-- Facts on the entries of a cursor: what dropping below a target keeps.
use Rattle.std.specs.Prelude.{◌≡◌, ℕ, ◌+◌, ◌<◌, ◌≤◌, List, [], ◌∷◌, length, drop, slice_index}
use Rattle.std.proofs.Common.{zero, suc, arith, sym, ap, refl, ◌∙◌, inl, inr}
use Rattle.std.proofs.lemmas.Bool.{le-leb, cases_lt}
use Rattle.std.proofs.lemmas.List.{drop_all}
use Rattle.std.proofs.lemmas.Bool.Decides.{nat_tests}
use Rattle.qm_docset.specs.Entry.{Entry, Limits, IsEntry, AreEntries, from, head_document, documents}
use Rattle.qm_docset.specs.declared.numbers.TheConstants.{TERMINATED}

pub from-nil : (t : ℕ) → from t [] ≡ []
unfolding from
from-nil t = refl

pub from-keep : (t : ℕ) (e : Entry) (es : List Entry) → t ≤ e.document → from t (e ∷ es) ≡ e ∷ from t es
unfolding from
from-keep t e es h = rw (le-leb t e.document h)

pub from-skip : (t : ℕ) (e : Entry) (es : List Entry) → e.document < t → from t (e ∷ es) ≡ from t es
unfolding from
from-skip t e es h = grind (arith, nat_tests)

-- an entry is one from its own document on, or from any number up to it
pub IsEntry-low : (low least : ℕ) (limits : Limits) (e : Entry) → least ≤ e.document → IsEntry low limits e → IsEntry least limits e
IsEntry-low low least limits e h a = record { from_low = h; below_end = a.below_end; score = a.score; positions = a.positions }

pub AreEntries-low : (low least : ℕ) (limits : Limits) (e : Entry) (es : List Entry) →
    least ≤ e.document → AreEntries low limits (e ∷ es) → AreEntries least limits (e ∷ es)
AreEntries-low low least limits e es h a = record { here = IsEntry-low low least limits e h a.here; others = a.others }

pub AreEntries-below : (low least : ℕ) (limits : Limits) (es : List Entry) → least ≤ low → AreEntries low limits es → AreEntries least limits es
AreEntries-below low least limits [] h a = tt
AreEntries-below low least limits (e ∷ es) h a = AreEntries-low low least limits e es (omega arith) a

-- nothing is dropped below the first entry
pub from-all : (t low : ℕ) (limits : Limits) (es : List Entry) → t ≤ low → AreEntries low limits es → from t es ≡ es
from-all t low limits [] h a = from-nil t
from-all t low limits (e ∷ es) h a = let here : t ≤ e.document = omega arith in from-keep t e es here
    ∙ ap (λ r. e ∷ r) (from-all t (e.document + 1) limits es (omega arith) a.others)

-- a seek to 0 drops nothing
pub from-zero : (es : List Entry) → from 0 es ≡ es
from-zero [] = from-nil 0
from-zero (e ∷ es) = from-keep 0 e es (omega arith) ∙ ap (λ r. e ∷ r) (from-zero es)

-- a cursor's entries begin where it stands
pub AreEntries-head : (low : ℕ) (limits : Limits) (es : List Entry) → AreEntries low limits es → AreEntries (head_document es) limits es
AreEntries-head low limits [] a = tt
AreEntries-head low limits (e ∷ es) a = AreEntries-low low e.document limits e es (omega arith) a

-- what remains at or past a target are entries from the target on
pub AreEntries-from : (t low : ℕ) (limits : Limits) (es : List Entry) → AreEntries low limits es → AreEntries t limits (from t es)
AreEntries-from t low limits [] a = rw (from-nil t) tt
AreEntries-from t low limits (e ∷ es) a =
    elim (cases_lt e.document t) [
      | inl below ↦ rw (from-skip t e es below) (AreEntries-from t (e.document + 1) limits es a.others)
      | inr kept ↦ rw (from-keep t e es kept)
          (record { here = IsEntry-low low t limits e kept a.here; others = rw (from-all t (e.document + 1) limits es (omega arith) a.others) a.others })
    ]

-- and they are still past where they began
pub AreEntries-from_low : (t low : ℕ) (limits : Limits) (es : List Entry) → AreEntries low limits es → AreEntries low limits (from t es)
AreEntries-from_low t low limits [] a = rw (from-nil t) tt
AreEntries-from_low t low limits (e ∷ es) a =
    elim (cases_lt e.document t) [
      | inl below ↦ rw (from-skip t e es below)
          (AreEntries-below (e.document + 1) low limits (from t es) (omega arith) (AreEntries-from_low t (e.document + 1) limits es a.others))
      | inr kept ↦ rw (from-keep t e es kept) (record { here = a.here; others = AreEntries-from_low t (e.document + 1) limits es a.others })
    ]

pub AreEntries-drop : (n low : ℕ) (limits : Limits) (es : List Entry) → AreEntries low limits es → AreEntries low limits (drop n es)
AreEntries-drop zero low limits es a = a
AreEntries-drop (suc n) low limits [] a = tt
AreEntries-drop (suc n) low limits (e ∷ es) a =
    AreEntries-below (e.document + 1) low limits (drop n es) (omega arith) (AreEntries-drop n (e.document + 1) limits es a.others)

-- a cursor stands from its lower bound on, and at TERMINATED at the most
pub head_document-bounds : (low : ℕ) (limits : Limits) (es : List Entry) → low ≤ TERMINATED →
    AreEntries low limits es → (low ≤ head_document es) × (head_document es ≤ TERMINATED)
head_document-bounds low limits [] h a = (h, omega arith)
head_document-bounds low limits (e ∷ es) h a = (a.here.from_low, omega arith)

-- a cursor has no more entries than there are documents from its lower bound on
pub length-entries : (low : ℕ) (limits : Limits) (es : List Entry) → low ≤ TERMINATED → AreEntries low limits es → low + length es ≤ TERMINATED
length-entries low limits [] h a = omega arith
length-entries low limits (e ∷ es) h a = omega (arith, length-entries (e.document + 1) limits es (omega arith) a.others)

-- past the document of the first entry lie all the others
pub from-next : (low : ℕ) (limits : Limits) (es : List Entry) → AreEntries low limits es → from (head_document es + 1) es ≡ drop 1 es
from-next low limits [] a = from-nil (TERMINATED + 1)
from-next low limits (e ∷ es) a = from-skip (e.document + 1) e es (omega arith) ∙ from-all (e.document + 1) (e.document + 1) limits es (omega arith) a.others

-- of two targets the greater counts
pub from-from : (t u : ℕ) (es : List Entry) → t ≤ u → from u (from t es) ≡ from u es
from-from t u [] h = ap (from u) (from-nil t)
from-from t u (e ∷ es) h =
    elim (cases_lt e.document t) [
      | inl below ↦ ap (from u) (from-skip t e es below) ∙ from-from t u es h ∙ sym (from-skip u e es (omega arith))
      | inr kept ↦ elim (cases_lt e.document u) [
        | inl under ↦ ap (from u) (from-keep t e es kept) ∙ from-skip u e (from t es) under ∙ from-from t u es h ∙ sym (from-skip u e es under)
        | inr past ↦ ap (from u) (from-keep t e es kept) ∙ from-keep u e (from t es) past ∙ ap (λ r. e ∷ r) (from-from t u es h) ∙ sym (from-keep u e es past)
      ]
    ]

-- a step over a document below the target changes nothing of what remains past it
pub from-drop : (t : ℕ) (es : List Entry) → head_document es < t → t ≤ TERMINATED → from t (drop 1 es) ≡ from t es
from-drop t [] h b = absurd (omega arith)
from-drop t (e ∷ es) h b = sym (from-skip t e es h)

-- a cursor that stands at TERMINATED has no entries left
pub entries-at_end : (low : ℕ) (limits : Limits) (es : List Entry) → AreEntries low limits es → TERMINATED ≤ head_document es → es ≡ []
entries-at_end low limits [] a h = refl
entries-at_end low limits (e ∷ es) a h = absurd (omega arith)

-- a cursor that stands on a document has an entry left
pub length-here : (es : List Entry) → head_document es < TERMINATED → 0 < length es
length-here [] h = absurd (omega arith)
length-here (e ∷ es) h = omega arith

-- where a cursor stands at or past a target, nothing is dropped
pub from-reached : (t low : ℕ) (limits : Limits) (es : List Entry) → t ≤ head_document es → AreEntries low limits es → from t es ≡ es
from-reached t low limits [] h a = from-nil t
from-reached t low limits (e ∷ es) h a = from-all t e.document limits (e ∷ es) h (AreEntries-low low e.document limits e es (omega arith) a)

-- the entries at or past a target are those from the first one on that is
pub from-cut : (t n low : ℕ) (limits : Limits) (es : List Entry) → AreEntries low limits es → n ≤ length es →
    ((k : ℕ) → k < n → slice_index (documents es) k < t) → (n < length es → t ≤ slice_index (documents es) n) → from t es ≡ drop n es
from-cut t n low limits [] a h passed reached = from-nil t ∙ sym (drop_all n [] (omega arith))
from-cut t zero low limits (e ∷ es) a h passed reached = from-reached t low limits (e ∷ es) (reached (omega arith)) a
from-cut t (suc n) low limits (e ∷ es) a h passed reached =
    from-skip t e es (passed 0 (omega arith))
    ∙ from-cut t n (e.document + 1) limits es a.others (omega arith) (λ k l. passed (suc k) (omega arith)) (λ l. reached (omega arith))
