-- Facts on a list that is said document by document: it ascends, it begins with the first document
-- that is kept, and a pass over the members drops what lies below its target.
use Rattle.std.specs.Prelude.{◌≡◌, ℕ, ◌+◌, ◌<◌, ◌≤◌, ◌≢◌, nat_le, Bool, true, false, List, [], ◌∷◌, length, filter, map, ◌⊎◌}
use Rattle.std.specs.List.{range_with_len}
use Rattle.std.proofs.Common.{zero, suc, arith, sym, ap, refl, ◌∙◌, inl, inr}
use Rattle.std.proofs.lemmas.Bool.{cases_Bool, cases_lt, cases_eq}
use Rattle.qm_docset.specs.Entry.{Entry, Limits, AreEntries, from, head_document}
use Rattle.qm_docset.specs.EntryFacts.{AreEntries-below, from-nil, from-keep, from-skip}
use Rattle.qm_docset.specs.Gather.{scored, scores_at, documents_below, entries_of, gathered, gather}
use Rattle.qm_docset.specs.GatherFacts.{entries_of-nil, entries_of-here, entries_of-other}
use Rattle.qm_docset.specs.Listed.{listed, IsNamed, IsNoneBelow, IsLimited, IsMoved}
use Rattle.qm_docset.specs.declared.numbers.TheConstants.{TERMINATED}

-- what enough of some lists have, with their scores combined, is such a list
pub gather-listed : (least : ℕ) (combined : List ℕ → ℕ) (ess : List (List Entry)) →
    gather least combined ess ≡ listed (λ d. nat_le least (length (scores_at d ess))) (λ d. scored d (combined (scores_at d ess)))
unfolding gather gathered listed
gather-listed least combined ess = refl

-- the same of some documents
unfoldable chosen : (ℕ → Bool) → (ℕ → Entry) → List ℕ → List Entry
chosen kept made ds = map made (filter kept ds)

chosen-nil : (kept : ℕ → Bool) (made : ℕ → Entry) → chosen kept made [] ≡ []
unfolding chosen
chosen-nil kept made = refl

chosen-keep : (kept : ℕ → Bool) (made : ℕ → Entry) (d : ℕ) (ds : List ℕ) → kept d ≡ true → chosen kept made (d ∷ ds) ≡ made d ∷ chosen kept made ds
unfolding chosen
chosen-keep kept made d ds h = rw h

chosen-skip : (kept : ℕ → Bool) (made : ℕ → Entry) (d : ℕ) (ds : List ℕ) → kept d ≡ false → chosen kept made (d ∷ ds) ≡ chosen kept made ds
unfolding chosen
chosen-skip kept made d ds h = rw h

listed-chosen : (kept : ℕ → Bool) (made : ℕ → Entry) → listed kept made ≡ chosen kept made (documents_below TERMINATED)
unfolding listed chosen
listed-chosen kept made = refl

-- It ascends.
AreEntries-chosen : (limits : Limits) (kept : ℕ → Bool) (made : ℕ → Entry) (a n : ℕ) → a + n ≤ TERMINATED →
    IsNamed made → IsLimited limits kept made → AreEntries a limits (chosen kept made (range_with_len a n))
AreEntries-chosen limits kept made a zero fits named within = rw (chosen-nil kept made) tt
AreEntries-chosen limits kept made a (suc n) fits named within =
    let rest = AreEntries-chosen limits kept made (a + 1) n (omega arith) named within in
    let name = named a in
    elim (cases_Bool (kept a)) [
      | inl holds ↦
          let most = within a holds in
          rw (chosen-keep kept made a (range_with_len (a + 1) n) holds) (record {
            here = record {
              from_low = omega arith;
              below_end = omega arith;
              score = most.0;
              positions = most.1;
            };
            others = AreEntries-below (a + 1) ((made a).document + 1) limits _ (omega arith) rest;
          })
      | inr fails ↦ rw (chosen-skip kept made a (range_with_len (a + 1) n) fails) (AreEntries-below (a + 1) a limits _ (omega arith) rest)
    ]

AreEntries-chosen_below : (limits : Limits) (kept : ℕ → Bool) (made : ℕ → Entry) (n : ℕ) → n ≤ TERMINATED →
    IsNamed made → IsLimited limits kept made → AreEntries 0 limits (chosen kept made (documents_below n))
unfolding documents_below
AreEntries-chosen_below limits kept made n fits named within = AreEntries-chosen limits kept made 0 n (omega arith) named within

-- such a list is that of a cursor within the limits
pub AreEntries-listed : (limits : Limits) (kept : ℕ → Bool) (made : ℕ → Entry) →
    IsNamed made → IsLimited limits kept made → AreEntries 0 limits (listed kept made)
AreEntries-listed limits kept made named within = rw (listed-chosen kept made) (AreEntries-chosen_below limits kept made TERMINATED (omega arith) named within)

-- A pass over the members drops what lies below its target.
chosen-moved : (t : ℕ) (kept kept_new : ℕ → Bool) (made made_new : ℕ → Entry) (ds : List ℕ) → IsNamed made →
    IsMoved t kept made kept_new made_new → chosen kept_new made_new ds ≡ from t (chosen kept made ds)
chosen-moved t kept kept_new made made_new [] named moved = chosen-nil kept_new made_new ∙ sym (ap (from t) (chosen-nil kept made) ∙ from-nil t)
chosen-moved t kept kept_new made made_new (d ∷ ds) named moved =
    let rest = chosen-moved t kept kept_new made made_new ds named moved in
    let name = named d in
    elim (cases_lt d t) [
      | inl below ↦
          let skipped = chosen-skip kept_new made_new d ds (moved.none_below d below) in
          let under : (made d).document < t = omega arith in
          elim (cases_Bool (kept d)) [
            | inl holds ↦ skipped ∙ rest ∙ sym (ap (from t) (chosen-keep kept made d ds holds) ∙ from-skip t (made d) (chosen kept made ds) under)
            | inr fails ↦ skipped ∙ rest ∙ sym (ap (from t) (chosen-skip kept made d ds fails))
          ]
      | inr past ↦
          let reached : t ≤ (made d).document = omega arith in
          elim (cases_Bool (kept d)) [
            | inl holds ↦
                chosen-keep kept_new made_new d ds (moved.same_test d past ∙ holds)
                ∙ ap (λ e. e ∷ chosen kept_new made_new ds) (moved.same_entry d past holds)
                ∙ ap (λ r. made d ∷ r) rest
                ∙ sym (ap (from t) (chosen-keep kept made d ds holds) ∙ from-keep t (made d) (chosen kept made ds) reached)
            | inr fails ↦ chosen-skip kept_new made_new d ds (moved.same_test d past ∙ fails) ∙ rest ∙ sym (ap (from t) (chosen-skip kept made d ds fails))
          ]
    ]

pub listed-moved : (t : ℕ) (kept kept_new : ℕ → Bool) (made made_new : ℕ → Entry) → IsNamed made →
    IsMoved t kept made kept_new made_new → listed kept_new made_new ≡ from t (listed kept made)
listed-moved t kept kept_new made made_new named moved =
    listed-chosen kept_new made_new ∙ chosen-moved t kept kept_new made made_new (documents_below TERMINATED) named moved
    ∙ ap (from t) (sym (listed-chosen kept made))

-- nothing is dropped where nothing is kept below the target
pub listed-reached : (t : ℕ) (kept : ℕ → Bool) (made : ℕ → Entry) → IsNamed made → IsNoneBelow t kept → listed kept made ≡ from t (listed kept made)
listed-reached t kept made named bare =
    listed-moved t kept kept made made named (record { none_below = bare; same_test = λ d past. refl; same_entry = λ d past holds. refl })

chosen-same : (kept kept_new : ℕ → Bool) (made made_new : ℕ → Entry) (ds : List ℕ) → ((d : ℕ) → kept_new d ≡ kept d) →
    ((d : ℕ) → kept d ≡ true → made_new d ≡ made d) → chosen kept_new made_new ds ≡ chosen kept made ds
chosen-same kept kept_new made made_new [] test entry = chosen-nil kept_new made_new ∙ sym (chosen-nil kept made)
chosen-same kept kept_new made made_new (d ∷ ds) test entry =
    let rest = chosen-same kept kept_new made made_new ds test entry in
    elim (cases_Bool (kept d)) [
      | inl holds ↦ chosen-keep kept_new made_new d ds (test d ∙ holds) ∙ ap (λ e. e ∷ chosen kept_new made_new ds) (entry d holds)
          ∙ ap (λ r. made d ∷ r) rest ∙ sym (chosen-keep kept made d ds holds)
      | inr fails ↦ chosen-skip kept_new made_new d ds (test d ∙ fails) ∙ rest ∙ sym (chosen-skip kept made d ds fails)
    ]

-- tests that agree, and entries that agree where documents are kept, make the same list
pub listed-same : (kept kept_new : ℕ → Bool) (made made_new : ℕ → Entry) → ((d : ℕ) → kept_new d ≡ kept d) →
    ((d : ℕ) → kept d ≡ true → made_new d ≡ made d) → listed kept_new made_new ≡ listed kept made
listed-same kept kept_new made made_new test entry =
    listed-chosen kept_new made_new ∙ chosen-same kept kept_new made made_new (documents_below TERMINATED) test entry ∙ sym (listed-chosen kept made)

-- It begins with the first document that is kept.
chosen-past : (t a n : ℕ) (kept : ℕ → Bool) (made : ℕ → Entry) → t ≤ a → IsNamed made →
    from t (chosen kept made (range_with_len a n)) ≡ chosen kept made (range_with_len a n)
chosen-past t a zero kept made h named = ap (from t) (chosen-nil kept made) ∙ from-nil t ∙ sym (chosen-nil kept made)
chosen-past t a (suc n) kept made h named =
    let ds = range_with_len (a + 1) n in
    let name = named a in
    let reached : t ≤ (made a).document = omega arith in
    let rest = chosen-past t (a + 1) n kept made (omega arith) named in
    elim (cases_Bool (kept a)) [
      | inl holds ↦ ap (from t) (chosen-keep kept made a ds holds) ∙ from-keep t (made a) (chosen kept made ds) reached
          ∙ ap (λ r. made a ∷ r) rest ∙ sym (chosen-keep kept made a ds holds)
      | inr fails ↦ ap (from t) (chosen-skip kept made a ds fails) ∙ rest ∙ sym (chosen-skip kept made a ds fails)
    ]

chosen-first : (d a n : ℕ) (kept : ℕ → Bool) (made : ℕ → Entry) → a ≤ d → d < a + n → IsNamed made → IsNoneBelow d kept →
    kept d ≡ true → chosen kept made (range_with_len a n) ≡ made d ∷ from (d + 1) (chosen kept made (range_with_len a n))
chosen-first d a zero kept made low high named bare here = absurd (omega arith)
chosen-first d a (suc n) kept made low high named bare here =
    let ds = range_with_len (a + 1) n in
    elim (cases_lt a d) [
      | inl before ↦
          let skipped = chosen-skip kept made a ds (bare a before) in
          skipped ∙ chosen-first d (a + 1) n kept made (omega arith) (omega arith) named bare here ∙ ap (λ r. made d ∷ from (d + 1) r) (sym skipped)
      | inr reached ↦
          let same : d ≡ a = omega arith in
          let holds : kept a ≡ true = ap kept (sym same) ∙ here in
          let first = chosen-keep kept made a ds holds in
          let name = named a in
          let below : (made a).document < d + 1 = omega arith in
          let rest : from (d + 1) (chosen kept made ds) ≡ chosen kept made ds = chosen-past (d + 1) (a + 1) n kept made (omega arith) named in
          first ∙ ap (λ x. made x ∷ chosen kept made ds) (sym same)
          ∙ ap (λ r. made d ∷ r) (sym (ap (from (d + 1)) first ∙ from-skip (d + 1) (made a) (chosen kept made ds) below ∙ rest))
    ]

chosen_below-first : (d n : ℕ) (kept : ℕ → Bool) (made : ℕ → Entry) → d < n → IsNamed made → IsNoneBelow d kept →
    kept d ≡ true → chosen kept made (documents_below n) ≡ made d ∷ from (d + 1) (chosen kept made (documents_below n))
unfolding documents_below
chosen_below-first d n kept made below named bare here = chosen-first d 0 n kept made (omega arith) (omega arith) named bare here

-- the first of the list, and the rest, which a cursor's step leaves
pub listed-first : (d : ℕ) (kept : ℕ → Bool) (made : ℕ → Entry) → d < TERMINATED → IsNamed made →
    IsNoneBelow d kept → kept d ≡ true → listed kept made ≡ made d ∷ from (d + 1) (listed kept made)
listed-first d kept made below named bare here = rw (listed-chosen kept made) (chosen_below-first d TERMINATED kept made below named bare here)

chosen-none : (a n : ℕ) (kept : ℕ → Bool) (made : ℕ → Entry) → IsNoneBelow (a + n) kept → chosen kept made (range_with_len a n) ≡ []
chosen-none a zero kept made bare = chosen-nil kept made
chosen-none a (suc n) kept made bare = chosen-skip kept made a (range_with_len (a + 1) n) (bare a (omega arith))
    ∙ chosen-none (a + 1) n kept made (λ d h. bare d (omega arith))

chosen_below-none : (n : ℕ) (kept : ℕ → Bool) (made : ℕ → Entry) → IsNoneBelow n kept → chosen kept made (documents_below n) ≡ []
unfolding documents_below
chosen_below-none n kept made bare = chosen-none 0 n kept made (λ d h. bare d (omega arith))

-- where no document is kept, nothing is listed
pub listed-none : (kept : ℕ → Bool) (made : ℕ → Entry) → IsNoneBelow TERMINATED kept → listed kept made ≡ []
listed-none kept made bare = listed-chosen kept made ∙ chosen_below-none TERMINATED kept made bare

head_document-past : (t : ℕ) (es : List Entry) → t ≤ TERMINATED → t ≤ head_document (from t es)
head_document-past t [] h = rw (from-nil t) h
head_document-past t (e ∷ es) h =
    elim (cases_lt e.document t) [
      | inl below ↦ rw (from-skip t e es below) (head_document-past t es h)
      | inr kept ↦ rw (from-keep t e es kept) kept
    ]

-- where nothing is kept below a bound, the list begins there or later
pub head_document-listed : (t : ℕ) (kept : ℕ → Bool) (made : ℕ → Entry) → t ≤ TERMINATED →
    IsNamed made → IsNoneBelow t kept → t ≤ head_document (listed kept made)
head_document-listed t kept made below named bare =
    let all = listed-reached t kept made named bare in
    omega (arith, head_document-past t (listed kept made) below, ap head_document all)

-- What the list says of each document.
entries_of-chosen_out : (d a n : ℕ) (kept : ℕ → Bool) (made : ℕ → Entry) → (d < a) ⊎ (a + n ≤ d) →
    IsNamed made → entries_of d (chosen kept made (range_with_len a n)) ≡ []
entries_of-chosen_out d a zero kept made out named = ap (entries_of d) (chosen-nil kept made) ∙ entries_of-nil d
entries_of-chosen_out d a (suc n) kept made out named =
    let ds = range_with_len (a + 1) n in
    let name = named a in
    let other : (made a).document ≢ d = elim out [ inl below ↦ omega arith | inr past ↦ omega arith ] in
    let further : (d < a + 1) ⊎ (a + 1 + n ≤ d) = elim out [ inl below ↦ inl (omega arith) | inr past ↦ inr (omega arith) ] in
    let rest = entries_of-chosen_out d (a + 1) n kept made further named in
    elim (cases_Bool (kept a)) [
      | inl holds ↦ ap (entries_of d) (chosen-keep kept made a ds holds) ∙ entries_of-other d (made a) (chosen kept made ds) other ∙ rest
      | inr fails ↦ ap (entries_of d) (chosen-skip kept made a ds fails) ∙ rest
    ]

entries_of-chosen : (d a n : ℕ) (kept : ℕ → Bool) (made : ℕ → Entry) → a ≤ d → d < a + n →
    IsNamed made → kept d ≡ true → entries_of d (chosen kept made (range_with_len a n)) ≡ made d ∷ []
entries_of-chosen d a zero kept made low high named here = absurd (omega arith)
entries_of-chosen d a (suc n) kept made low high named here =
    let ds = range_with_len (a + 1) n in
    let name = named a in
    elim (cases_eq a d) [
      | inl same ↦
          let holds : kept a ≡ true = ap kept same ∙ here in
          ap (entries_of d) (chosen-keep kept made a ds holds)
          ∙ entries_of-here d (made a) (chosen kept made ds) (name ∙ same)
          ∙ ap (λ r. made a ∷ r) (entries_of-chosen_out d (a + 1) n kept made (inl (omega arith)) named)
          ∙ ap (λ x. made x ∷ []) same
      | inr other ↦
          let rest = entries_of-chosen d (a + 1) n kept made (omega arith) (omega arith) named here in
          let apart : (made a).document ≢ d = omega arith in
          elim (cases_Bool (kept a)) [
            | inl holds ↦ ap (entries_of d) (chosen-keep kept made a ds holds) ∙ entries_of-other d (made a) (chosen kept made ds) apart ∙ rest
            | inr fails ↦ ap (entries_of d) (chosen-skip kept made a ds fails) ∙ rest
          ]
    ]

entries_of-chosen_lacks : (d a n : ℕ) (kept : ℕ → Bool) (made : ℕ → Entry) → IsNamed made →
    kept d ≡ false → entries_of d (chosen kept made (range_with_len a n)) ≡ []
entries_of-chosen_lacks d a zero kept made named lacks = ap (entries_of d) (chosen-nil kept made) ∙ entries_of-nil d
entries_of-chosen_lacks d a (suc n) kept made named lacks =
    let ds = range_with_len (a + 1) n in
    let name = named a in
    let rest = entries_of-chosen_lacks d (a + 1) n kept made named lacks in
    elim (cases_Bool (kept a)) [
      | inl holds ↦
          let apart : (made a).document ≢ d = λ same. cc (sym holds, ap kept (sym name ∙ same), lacks) in
          ap (entries_of d) (chosen-keep kept made a ds holds) ∙ entries_of-other d (made a) (chosen kept made ds) apart ∙ rest
      | inr fails ↦ ap (entries_of d) (chosen-skip kept made a ds fails) ∙ rest
    ]

entries_of-chosen_below : (d n : ℕ) (kept : ℕ → Bool) (made : ℕ → Entry) → d < n → IsNamed made →
    kept d ≡ true → entries_of d (chosen kept made (documents_below n)) ≡ made d ∷ []
unfolding documents_below
entries_of-chosen_below d n kept made below named here = entries_of-chosen d 0 n kept made (omega arith) (omega arith) named here

entries_of-chosen_below_lacks : (d n : ℕ) (kept : ℕ → Bool) (made : ℕ → Entry) →
    IsNamed made → kept d ≡ false → entries_of d (chosen kept made (documents_below n)) ≡ []
unfolding documents_below
entries_of-chosen_below_lacks d n kept made named lacks = entries_of-chosen_lacks d 0 n kept made named lacks

-- one entry of a document that is kept
pub entries_of-listed : (d : ℕ) (kept : ℕ → Bool) (made : ℕ → Entry) → d < TERMINATED →
    IsNamed made → kept d ≡ true → entries_of d (listed kept made) ≡ made d ∷ []
entries_of-listed d kept made below named here = ap (entries_of d) (listed-chosen kept made) ∙ entries_of-chosen_below d TERMINATED kept made below named here

-- and none of another
pub entries_of-listed_lacks : (d : ℕ) (kept : ℕ → Bool) (made : ℕ → Entry) → IsNamed made → kept d ≡ false → entries_of d (listed kept made) ≡ []
entries_of-listed_lacks d kept made named lacks = ap (entries_of d) (listed-chosen kept made) ∙ entries_of-chosen_below_lacks d TERMINATED kept made named lacks
