-- Documents among entries.
use Rattle.std.proofs.Common.{◌≡◌, ℕ, zero, suc, ◌+◌, ◌<◌, ◌≤◌, ◌==◌, ◌||◌, Bool, true, false, List, [], ◌∷◌, length, get_or, set, map, take, drop, refl, sym}
use Rattle.std.proofs.Common.{ap, ◌∙◌, inl, inr, arith, eq-eqb, ne_eqb}
use Rattle.std.proofs.lemmas.Bool.{cases_lt, or_cases, or_right}
use Rattle.std.proofs.lemmas.List.{get_or-drop}
use Rattle.std.proofs.lemmas.List.Folds.{list_any_more}
use Rattle.std.specs.List.{list_any}
use Rattle.qm_docset.specs.Entry.{Entry, Limits, AreEntries, from, head_document}
use Rattle.qm_docset.specs.EntryFacts.{from-nil, from-keep, from-skip}
use Rattle.qm_docset.specs.Exclusion.{has_document, some_has_document}
use Rattle.qm_docset.specs.HasFacts.{has_document-nil, has_document-cons}
use Rattle.qm_docset.specs.declared.numbers.TheConstants.{TERMINATED}

-- ---- one cursor

past : (low d : ℕ) (limits : Limits) (es : List Entry) → AreEntries low limits es → d < low → has_document es d ≡ false
past low d limits [] ascends before = has_document-nil d
past low d limits (e ∷ es) ascends before =
    has_document-cons e es d ∙ rw (ne_eqb e.document d (λ same. omega arith)) (past (e.document + 1) d limits es ascends.others (omega arith))

-- what lies at or past a target stays
pub has_document-from : (t d : ℕ) (es : List Entry) → t ≤ d → has_document (from t es) d ≡ has_document es d
has_document-from t d [] h = ap (λ es. has_document es d) (from-nil t)
has_document-from t d (e ∷ es) h =
    let rest = has_document-from t d es h in
    elim (cases_lt e.document t) [
      | inl below ↦
          let other = ne_eqb e.document d (λ same. omega arith) in
          ap (λ es. has_document es d) (from-skip t e es below) ∙ rest ∙ sym (has_document-cons e es d ∙ rw other)
      | inr kept ↦
          ap (λ es. has_document es d) (from-keep t e es kept) ∙ has_document-cons e (from t es) d
          ∙ ap (λ b. e.document == d || b) rest ∙ sym (has_document-cons e es d)
    ]

-- nothing is added
pub has_document-added : (t d : ℕ) (es : List Entry) → has_document (from t es) d ≡ true → has_document es d ≡ true
has_document-added t d [] member = rw (from-nil t) at member
has_document-added t d (e ∷ es) member =
    elim (cases_lt e.document t) [
      | inl below ↦
          let rest = has_document-added t d es (rw (from-skip t e es below) at member) in
          has_document-cons e es d ∙ or_right (e.document == d) (has_document es d) rest
      | inr kept ↦
          let parts = sym (has_document-cons e (from t es) d) ∙ rw (from-keep t e es kept) at member in
          elim (or_cases (e.document == d) (has_document (from t es) d) parts) [
            | inl first ↦ has_document-cons e es d ∙ rw first
            | inr later ↦ has_document-cons e es d ∙ or_right (e.document == d) (has_document es d) (has_document-added t d es later)
          ]
    ]

pub has_document-head : (d : ℕ) (es : List Entry) → head_document es ≡ d → d < TERMINATED → has_document es d ≡ true
has_document-head d [] here below = absurd (omega arith)
has_document-head d (e ∷ es) here below = has_document-cons e es d ∙ rw (eq-eqb e.document d here)

pub has_document-before : (low d : ℕ) (limits : Limits) (es : List Entry) → AreEntries low limits es → d < head_document es → has_document es d ≡ false
has_document-before low d limits [] ascends before = has_document-nil d
has_document-before low d limits (e ∷ es) ascends before =
    has_document-cons e es d ∙ rw (ne_eqb e.document d (λ same. omega arith)) (past (e.document + 1) d limits es ascends.others (omega arith))

-- ---- several cursors

pub some_has_document-map : {T : Type 0} (entries : T → List Entry) (xs : List T) (d : ℕ) →
    some_has_document (map entries xs) d ≡ list_any (λ x. has_document (entries x) d) xs
unfolding some_has_document
some_has_document-map entries [] d = refl
some_has_document-map entries (x ∷ xs) d = ap (λ b. has_document (entries x) d || b) (some_has_document-map entries xs d)

-- a place is written
pub list_any-set : {X : Type 0} (p : X → Bool) (xs : List X) (i : ℕ) (y d : X) →
    i < length xs → p y ≡ p (get_or xs i d) → list_any p (set xs i y) ≡ list_any p xs
list_any-set p [] i y d within same = absurd (omega arith)
list_any-set p (x ∷ xs) zero y d within same = rw same
list_any-set p (x ∷ xs) (suc i) y d within same = ap (λ b. p x || b) (list_any-set p xs i y d (omega arith) same)

pub list_any-set_added : {X : Type 0} (p : X → Bool) (xs : List X) (i : ℕ) (y d : X) → i < length xs →
    (p y ≡ true → p (get_or xs i d) ≡ true) → list_any p (set xs i y) ≡ true → list_any p xs ≡ true
list_any-set_added p [] i y d within weaker member = absurd (omega arith)
list_any-set_added p (x ∷ xs) zero y d within weaker member =
    elim (or_cases (p y) (list_any p xs) member) [
      | inl first ↦ rw (weaker first)
      | inr later ↦ or_right (p x) (list_any p xs) later
    ]
list_any-set_added p (x ∷ xs) (suc i) y d within weaker member =
    elim (or_cases (p x) (list_any p (set xs i y)) member) [
      | inl first ↦ rw first
      | inr later ↦ or_right (p x) (list_any p xs) (list_any-set_added p xs i y d (omega arith) weaker later)
    ]

-- a cursor among several is replaced
module _ {T : Type 0} (entries : T → List Entry) (xs : List T) (i : ℕ) (y d : T) (within : i < length xs) (document : ℕ) where
  pub some_has_document-set : has_document (entries y) document ≡ has_document (entries (get_or xs i d)) document →
      some_has_document (map entries (set xs i y)) document ≡ some_has_document (map entries xs) document
  some_has_document-set same =
      some_has_document-map entries (set xs i y) document ∙ list_any-set (λ x. has_document (entries x) document) xs i y d within same
      ∙ sym (some_has_document-map entries xs document)

  pub some_has_document-set_added : (has_document (entries y) document ≡ true → has_document (entries (get_or xs i d)) document ≡ true) →
      some_has_document (map entries (set xs i y)) document ≡ true → some_has_document (map entries xs) document ≡ true
  some_has_document-set_added weaker member =
      some_has_document-map entries xs document
      ∙ list_any-set_added (λ x. has_document (entries x) document) xs i y d within weaker (sym (some_has_document-map entries (set xs i y) document) ∙ member)

-- one more is asked, and has it not
pub lacks_more : {X : Type 0} (p : X → Bool) (xs : List X) (i : ℕ) (d : X) → i < length xs →
    list_any p (take i xs) ≡ false → p (get_or xs i d) ≡ false → list_any p (take (i + 1) xs) ≡ false
lacks_more p xs i d within so_far here = list_any_more p xs i d within ∙ rw (so_far, here)

-- two lists that are the same from a place on have the same element there
pub same_at : {X : Type 0} (xs ys : List X) (i : ℕ) (d : X) → drop i xs ≡ drop i ys → get_or xs i d ≡ get_or ys i d
same_at xs ys i d same =
    let here : i + 0 ≡ i = omega arith in
    rw here at (sym (get_or-drop i xs 0 d) ∙ ap (λ zs. get_or zs 0 d) same ∙ get_or-drop i ys 0 d)
