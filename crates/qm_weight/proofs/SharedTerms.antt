-- The postings of a phrase's terms, which have numbers while they are read, so that equal terms share them: what
-- becomes of the numbers as one more term gets its own or another's.
use Rattle.std.proofs.Common.{◌≡◌, ℕ, ◌<◌, ◌≤◌, Bool, true, [], ◌∷◌, ◌++◌, Option, None, Some, length, get_or, refl, ap, arith, subst, sym, ◌∙◌}
use Rattle.std.proofs.Common.{inl, inr}
use Rattle.std.specs.Prelude.{IfSome, slice_get, slice_index_or, unwrap_or}
use Rattle.std.specs.HashMap.{HashMap, Updates, get}
use Rattle.std.proofs.Math.Seq.{get_or-append_seam}
use Rattle.std.proofs.lemmas.Bool.{cases_Bool}
use Rattle.std.proofs.lemmas.List.{get_or_append_left, length-append, length-map, map-append}
use Rattle.qm_docset.specs.Lists.{lists}
use Rattle.qm_phrase.specs.PhraseTerms.{members_of}
use Rattle.qm_phrase.specs.declared.phrase_terms.PhraseTerms.{PhraseTerms}
use Rattle.qm_postings.specs.Reading.{Reader}
use Rattle.qm_postings.specs.Segment.{postings_of}
use Rattle.qm_postings.specs.SegmentPostings.{postings_left}
use Rattle.qm_postings.specs.declared.inverted_index.TermInfo.{TermInfo}
use Rattle.qm_postings.specs.declared.segment_postings.SegmentPostings.{SegmentPostings}
use Rattle.qm_schema.specs.Term.{TermKey}
use Rattle.qm_schema.specs.declared.schema.option.IndexRecordOption.TheVariants.{WithFreqsAndPositions}
use Rattle.qm_scorer.specs.Tree.{postings_cursors}

-- the postings of this number are those of the term that an info is of
pub record IsTermNumber (reader : Reader) (given : PhraseTerms SegmentPostings) (info : TermInfo) (number : ℕ) : Type 0 where
  pub within : number < length (members_of given)
  pub entries : (t : TermKey) → slice_get reader.terms info.ordinal ≡ Some t →
      slice_index_or (lists postings_cursors (members_of given)) number [] ≡ postings_of reader.segment WithFreqsAndPositions t

-- so is each number in a map
abbrev pub AreTermNumbers : {S : Type 0} → (TermInfo → TermInfo → Bool) → Reader → PhraseTerms SegmentPostings → HashMap TermInfo ℕ S → Type 0
AreTermNumbers eq reader given numbers = (info : TermInfo) → IfSome (get eq numbers info) (IsTermNumber reader given info)

weaker : (P Q : ℕ → Type 0) (o : Option ℕ) → ((k : ℕ) → P k → Q k) → IfSome o P → IfSome o Q
weaker P Q None imp h = h
weaker P Q (Some k) imp h = imp k h

found : (P : ℕ → Type 0) (o : Option ℕ) (number next : ℕ) → IfSome o P → number ≡ unwrap_or o next → number < next → P number
found P None number next h is below = absurd (omega (arith, is, below))
found P (Some k) number next h is below = subst P (sym is) h

is_next : (P : ℕ → Type 0) (o : Option ℕ) (number next : ℕ) → ((k : ℕ) → P k → k < next) → IfSome o P → number ≡ unwrap_or o next → next ≤ number → number ≡ next
is_next P None number next within h is reached = is
is_next P (Some k) number next within h is reached = absurd (omega (arith, within k h, is, reached))

module _ {S : Type 0} (eq : TermInfo → TermInfo → Bool) (reader : Reader) (given : PhraseTerms SegmentPostings) (numbers : HashMap TermInfo ℕ S)
    (numbered : AreTermNumbers eq reader given numbers) (info : TermInfo) (number next : ℕ) (is : number ≡ unwrap_or (get eq numbers info) next) where
  -- a number before the next is that of postings which are there
  pub number-known : number < next → IsTermNumber reader given info number
  number-known below = found (IsTermNumber reader given info) (get eq numbers info) number next (numbered info) is below

  -- and else it is the next
  pub number-next : next ≡ length (members_of given) → next ≤ number → number ≡ next
  number-next long reached = is_next (IsTermNumber reader given info) (get eq numbers info) number next
      (λ k h. let within = h.within in omega (arith, within, long)) (numbered info) is reached

-- the numbers in the map stay those of their terms
pub AreTermNumbers-more : {S : Type 0} (eq : TermInfo → TermInfo → Bool) → ((a b : TermInfo) → eq a b ≡ true → a.ordinal ≡ b.ordinal) →
    (reader : Reader) (given more : PhraseTerms SegmentPostings) (old new : HashMap TermInfo ℕ S) (info : TermInfo) (number : ℕ) →
    AreTermNumbers eq reader given old → Updates eq old new info (Some number) → IsTermNumber reader more info number →
    ((q : TermInfo) (k : ℕ) → IsTermNumber reader given q k → IsTermNumber reader more q k) → AreTermNumbers eq reader more new
AreTermNumbers-more eq law reader given more old new info number numbered kept own others q =
    elim (cases_Bool (eq info q)) [
      | inl same ↦
          let level = law info q same in
          let here : get eq new q ≡ Some number = kept.0 q ∙ (rw same refl) in
          subst (λ o. IfSome o (IsTermNumber reader more q)) (sym here) (record {
            within = own.within;
            entries = λ t place. own.entries t (ap (slice_get reader.terms) level ∙ place);
          })
      | inr other ↦
          let here : get eq new q ≡ get eq old q = kept.0 q ∙ (rw other refl) in
          subst (λ o. IfSome o (IsTermNumber reader more q)) (sym here)
          (weaker (IsTermNumber reader given q) (IsTermNumber reader more q) (get eq old q) (others q) (numbered q))
    ]

module _ (reader : Reader) (given more : PhraseTerms SegmentPostings) where
  -- the same members
  pub IsTermNumber-same : members_of more ≡ members_of given → (q : TermInfo) (k : ℕ) → IsTermNumber reader given q k → IsTermNumber reader more q k
  IsTermNumber-same same q k h = record {
    within = omega (arith, h.within, ap length same);
    entries = λ t place. ap (λ ms. get_or (lists postings_cursors ms) k []) same ∙ h.entries t place;
  }

  -- one more member
  module _ (p : SegmentPostings) (longer : members_of more ≡ members_of given ++ p ∷ []) where
    at_more : (k : ℕ) → get_or (lists postings_cursors (members_of more)) k []
        ≡ get_or (lists postings_cursors (members_of given) ++ postings_left p ∷ []) k []
    at_more k = ap (λ ms. get_or (lists postings_cursors ms) k []) longer
        ∙ ap (λ r. get_or r k []) (map-append postings_left (members_of given) (p ∷ []))

    pub IsTermNumber-longer : (q : TermInfo) (k : ℕ) → IsTermNumber reader given q k → IsTermNumber reader more q k
    IsTermNumber-longer q k h =
        let long = length-map (members_of given) postings_left in
        record {
          within = omega (arith, h.within, ap length longer, length-append (members_of given) (p ∷ []));
          entries = λ t place. at_more k ∙ get_or_append_left (lists postings_cursors (members_of given)) (postings_left p ∷ []) [] k
              (omega (arith, h.within, long)) ∙ h.entries t place;
        }

    pub IsTermNumber-last : (info : TermInfo) (t : TermKey) (number : ℕ) → number ≡ length (members_of given) → slice_get reader.terms info.ordinal ≡ Some t →
        postings_left p ≡ postings_of reader.segment WithFreqsAndPositions t → IsTermNumber reader more info number
    IsTermNumber-last info t number is place entries =
        let xs = lists postings_cursors (members_of given) in
        let long : number ≡ length xs = is ∙ sym (length-map (members_of given) postings_left) in
        record {
          within = omega (arith, is, ap length longer, length-append (members_of given) (p ∷ []));
          entries = λ u there.
              let same : t ≡ u = cc (place, there) in
              at_more number ∙ ap (λ k. get_or (xs ++ postings_left p ∷ []) k []) long ∙ get_or-append_seam xs (postings_left p) [] [] ∙ entries
              ∙ ap (postings_of reader.segment WithFreqsAndPositions) same;
        }
