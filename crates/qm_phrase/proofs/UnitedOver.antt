-- The documents of a set, each with what is made of it, as the set goes on; and with what several
-- postings say of it, as these go on too.
use Rattle.std.proofs.Common.{◌≡◌, ℕ, ◌+◌, ◌<◌, List, [], ◌∷◌, drop, map, refl, ap, sym, ◌∙◌, arith, inl, inr}
use Rattle.std.proofs.lemmas.Bool.{cases_lt}
use Rattle.qm_docset.specs.Entry.{Entry, Limits, AreEntries, from, head_document, head_frequency, head_positions}
use Rattle.qm_docset.specs.EntryFacts.{AreEntries-below, AreEntries-head, from-keep, from-nil, from-skip}
use Rattle.qm_docset.specs.Listed.{IsNamed}
use Rattle.qm_docset.specs.declared.numbers.TheConstants.{TERMINATED}
use Rattle.qm_phrase.specs.PostingUnions.{described, entries_at, united_entry, united_frequency, united_over, united_positions}
use Rattle.qm_phrase.proofs.UnitedLists.{entries_at-left}

module _ (made : ℕ → Entry) (named : IsNamed made) where
  pub head_document-described : (set : List Entry) → head_document (described made set) ≡ head_document set
  head_document-described [] = refl
  head_document-described (e ∷ es) = named e.document

  -- what is shown of the document that the set stands on
  pub head_frequency-described : (set : List Entry) → head_document set < TERMINATED →
      head_frequency (described made set) ≡ (made (head_document set)).frequency
  head_frequency-described [] h = absurd (omega arith)
  head_frequency-described (e ∷ es) h = refl

  pub head_positions-described : (set : List Entry) → head_document set < TERMINATED →
      head_positions (described made set) ≡ (made (head_document set)).positions
  head_positions-described [] h = absurd (omega arith)
  head_positions-described (e ∷ es) h = refl

  pub drop-described : (set : List Entry) → described made (drop 1 set) ≡ drop 1 (described made set)
  drop-described [] = refl
  drop-described (e ∷ es) = refl

  pub from-described : (t : ℕ) (set : List Entry) → described made (from t set) ≡ from t (described made set)
  from-described t [] = ap (described made) (from-nil t) ∙ sym (from-nil t)
  from-described t (e ∷ es) =
      let name = named e.document in
      elim (cases_lt e.document t) [
        | inl below ↦ ap (described made) (from-skip t e es below) ∙ from-described t es
            ∙ sym (from-skip t (made e.document) (described made es) (omega (arith, name)))
        | inr kept ↦ ap (described made) (from-keep t e es kept) ∙ ap (λ r. made e.document ∷ r) (from-described t es)
            ∙ sym (from-keep t (made e.document) (described made es) (omega (arith, name)))
      ]

-- postings that have dropped what lies before the documents say the same of them
over-left : (t : ℕ) (limits : Limits) (set : List Entry) (old new : List (List Entry)) →
    AreEntries t limits set → map (from t) new ≡ map (from t) old → united_over set new ≡ united_over set old
over-left t limits [] old new a same = refl
over-left t limits (e ∷ es) old new a same =
    let here : united_entry e.document (entries_at e.document new) ≡ united_entry e.document (entries_at e.document old) =
    ap (united_entry e.document) (entries_at-left e.document t old new a.here.from_low same) in
    let rest = over-left t limits es old new (AreEntries-below (e.document + 1) t limits es (omega (arith, a.here.from_low)) a.others) same in
    λ i. here i ∷ rest i

pub over-moved : (limits : Limits) (set : List Entry) (old new : List (List Entry)) → AreEntries 0 limits set →
    map (from (head_document set)) new ≡ map (from (head_document set)) old → united_over set new ≡ united_over set old
over-moved limits set old new a same = over-left (head_document set) limits set old new (AreEntries-head 0 limits set a) same

-- ---- by their names over postings

pub head_document-over : (set : List Entry) (ess : List (List Entry)) → head_document (united_over set ess) ≡ head_document set
head_document-over set ess = head_document-described (λ d. united_entry d (entries_at d ess)) (λ d. refl) set

pub head_positions-over : (set : List Entry) (ess : List (List Entry)) → head_document set < TERMINATED →
    head_positions (united_over set ess) ≡ united_positions (entries_at (head_document set) ess)
head_positions-over set ess h = head_positions-described (λ d. united_entry d (entries_at d ess)) (λ d. refl) set h

pub head_frequency-over : (set : List Entry) (ess : List (List Entry)) → head_document set < TERMINATED →
    head_frequency (united_over set ess) ≡ united_frequency (entries_at (head_document set) ess)
head_frequency-over set ess h = head_frequency-described (λ d. united_entry d (entries_at d ess)) (λ d. refl) set h

pub drop-over : (set : List Entry) (ess : List (List Entry)) → united_over (drop 1 set) ess ≡ drop 1 (united_over set ess)
drop-over set ess = drop-described (λ d. united_entry d (entries_at d ess)) (λ d. refl) set

pub from-over : (t : ℕ) (set : List Entry) (ess : List (List Entry)) → united_over (from t set) ess ≡ from t (united_over set ess)
from-over t set ess = from-described (λ d. united_entry d (entries_at d ess)) (λ d. refl) t set
