-- The members of a set as the entries of a cursor.
use Rattle.std.proofs.Common.{◌≡◌, ℕ, zero, suc, ◌+◌, ◌<◌, ◌≤◌, max, Bool, false, ◌&&◌, nat_le, List, [], ◌∷◌, drop, map, filter, slice_get, Option, Some, None}
use Rattle.std.proofs.Common.{refl, sym, ap, ◌∙◌, inl, inr, arith, add-one}
use Rattle.std.proofs.lemmas.Bool.{cases_lt, and_right, le-leb, lt-leb}
use Rattle.std.proofs.lemmas.List.{drop-drop}
use Rattle.qm_docset.specs.declared.numbers.TheConstants.{TERMINATED}
use Rattle.qm_docset.specs.Entry.{Entry, from, head_document, plain}
use Rattle.qm_docset.specs.EntryFacts.{from-nil, from-keep, from-skip}
use Rattle.qm_docset.specs.Members.{members_between}
use Rattle.qm_docset.proofs.MembersLemmas.{and_true, members_between-none, members_between-skip, members_between-same, members_between-first_of}
use Rattle.qm_docset.proofs.MembersLemmas.{filter-members_between, cases_first, IsFirst, HasNone}

from-plain : (t : ℕ) (xs : List ℕ) → from t (map plain xs) ≡ map plain (filter (λ x. nat_le t x) xs)
from-plain t [] = from-nil t
from-plain t (x ∷ xs) =
    elim (cases_lt x t) [
      | inl below ↦ rw (lt-leb t x below) (from-skip t (plain x) (map plain xs) below ∙ from-plain t xs)
      | inr kept ↦ rw (le-leb t x kept) (from-keep t (plain x) (map plain xs) kept ∙ ap (λ es. plain x ∷ es) (from-plain t xs))
    ]

abbrev pub entries_from : (ℕ → Bool) → ℕ → ℕ → List Entry
entries_from has low high = map plain (members_between has low high)

pub entries-at_end : (has : ℕ → Bool) (low high : ℕ) → high ≤ low → entries_from has low high ≡ []
entries-at_end has low high past = ap (map plain) (members_between-none has low high (λ x above below. absurd (omega arith)))

module _ (has : ℕ → Bool) (low high : ℕ) where
  pub entries-first : (x : ℕ) → IsFirst has low high x → entries_from has low high ≡ plain x ∷ entries_from has (x + 1) high
  entries-first x first = ap (map plain) (members_between-first_of has low high x first)

  pub entries-none : HasNone has low high → entries_from has low high ≡ []
  entries-none none = ap (map plain) (members_between-none has low high none)

  pub entries-skip : (mid : ℕ) → low ≤ mid → HasNone has low mid → entries_from has mid high ≡ entries_from has low high
  entries-skip mid above none = ap (map plain) (sym (members_between-skip has low mid high above none))

  pub head-first : (x : ℕ) → IsFirst has low high x → head_document (entries_from has low high) ≡ x
  head-first x first = ap head_document (entries-first x first)

  pub head-none : HasNone has low high → head_document (entries_from has low high) ≡ TERMINATED
  head-none none = ap head_document (entries-none none)

  -- a cursor that is moved to the head of what remains has the same entries
  pub entries-head : high ≤ TERMINATED → entries_from has (head_document (entries_from has low high)) high ≡ entries_from has low high
  entries-head fits =
      elim (cases_first has low high) [
        | inl none ↦ rw (head-none none) (entries-at_end has TERMINATED high fits ∙ sym (entries-none none))
        | inr first ↦ rw (head-first first.0 first.1) (entries-skip first.0 first.1.above first.1.none_before)
      ]

  pub head-bounds : low ≤ TERMINATED → high ≤ TERMINATED → (low ≤ head_document (entries_from has low high)) ×
      (head_document (entries_from has low high) ≤ TERMINATED)
  head-bounds start fits =
      elim (cases_first has low high) [
        | inl none ↦ rw (head-none none) (start, omega arith)
        | inr first ↦ rw (head-first first.0 first.1) (first.1.above, omega (arith, first.1.below))
      ]

  pub head-end : high ≤ TERMINATED → head_document (entries_from has low high) ≤ TERMINATED
  head-end fits =
      elim (cases_first has low high) [
        | inl none ↦ rw (head-none none) (omega arith)
        | inr first ↦ rw (head-first first.0 first.1) (omega (arith, first.1.below))
      ]

  -- past the document that a cursor stands on lie the others
  pub entries-next : high ≤ TERMINATED → low ≡ head_document (entries_from has low high) → entries_from has (low + 1) high ≡ drop 1 (entries_from has low high)
  entries-next fits placed =
      elim (cases_first has low high) [
        | inl none ↦
            let ended : low ≡ TERMINATED = placed ∙ head-none none in
            rw (entries-none none) (entries-at_end has (low + 1) high (omega arith))
        | inr first ↦
            let here : low ≡ first.0 = placed ∙ head-first first.0 first.1 in
            rw (entries-first first.0 first.1, here)
      ]

  -- what lies at or past a target
  pub from-entries : (t : ℕ) → from t (entries_from has low high) ≡ entries_from has (max low t) high
  from-entries t =
      let both : ℕ → Bool = λ x. has x && nat_le t x in
      let cut = from-plain t (members_between has low high) ∙ ap (map plain) (filter-members_between has (λ x. nat_le t x) low high) in
      let none : HasNone both low (max low t) = λ x above below. rw (lt-leb t x (omega arith)) (and_right (has x) false refl) in
      let same : (x : ℕ) → max low t ≤ x → x < high → both x ≡ has x = λ x above below. rw (le-leb t x (omega arith)) (and_true (has x)) in
      cut ∙ ap (map plain) (members_between-skip both low (max low t) high (omega arith) none ∙ members_between-same both has (max low t) high same)

-- wherever a cursor has come to by steps, the entries are those from its document on
pub entries-drop : (has : ℕ → Bool) (low high n : ℕ) → high ≤ TERMINATED →
    entries_from has (head_document (drop n (entries_from has low high))) high ≡ drop n (entries_from has low high)
entries-drop has low high zero fits = entries-head has low high fits
entries-drop has low high (suc n) fits =
    let es : List Entry = entries_from has low high in
    let here : ℕ = head_document (drop n es) in
    let so_far = entries-drop has low high n fits in
    let next : entries_from has (here + 1) high ≡ drop (suc n) es =
    entries-next has here high fits (ap head_document (sym so_far)) ∙ ap (drop 1) so_far ∙ drop-drop 1 n es ∙ rw add-one in
    rw (← next) (entries-head has (here + 1) high fits)

-- ---- the first member by the list

module _ (has : ℕ → Bool) (low high : ℕ) where
  pub first-from_Some : (x : ℕ) → Some x ≡ slice_get (members_between has low high) 0 → IsFirst has low high x
  first-from_Some x read =
      elim (cases_first has low high) [
        | inl none ↦ absurd (let empty = ap (λ (xs : List ℕ). slice_get xs 0) (members_between-none has low high none) in cc)
        | inr first ↦
            let at : Some x ≡ Some (first.0) = read ∙ ap (λ (xs : List ℕ). slice_get xs 0) (members_between-first_of has low high first.0 first.1) in
            let same : x ≡ first.0 = cc in
            rw same first.1
      ]

  pub none-from_None : None ≡ slice_get (members_between has low high) 0 → HasNone has low high
  none-from_None read =
      elim (cases_first has low high) [
        | inl none ↦ none
        | inr first ↦ absurd (let some = ap (λ (xs : List ℕ). slice_get xs 0) (members_between-first_of has low high first.0 first.1) in cc)
      ]

  pub Some-from_first : (x : ℕ) → IsFirst has low high x → slice_get (members_between has low high) 0 ≡ Some x
  Some-from_first x first = ap (λ (xs : List ℕ). slice_get xs 0) (members_between-first_of has low high x first)

-- the first of a mapped list
pub first-map : (f : ℕ → ℕ) (xs : List ℕ) (x : ℕ) → Some x ≡ slice_get xs 0 → Some (f x) ≡ slice_get (map f xs) 0
first-map f [] x read = absurd (cc)
first-map f (y ∷ xs) x read = let same : x ≡ y = cc in ap (λ z. Some (f z)) same

pub none-map : (f : ℕ → ℕ) (xs : List ℕ) → None ≡ slice_get xs 0 → ◌≡◌ {A = Option ℕ} None (slice_get (map f xs) 0)
none-map f [] read = refl
none-map f (y ∷ xs) read = absurd (cc)
