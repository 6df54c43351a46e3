-- What a segment says of its terms, where some of them alone are kept; and that it is made of their rows.
use Rattle.std.proofs.Common.{◌≡◌, ◌==◌, ℕ, Bool, true, false, cond, List, [], ◌∷◌, length, get_or, map, Option, Some, None, refl, ap, sym, ◌∙◌, arith, inl, inr}
use Rattle.std.specs.FinMap.{from_entries, get, get-empty, get-from_entries, get-retain_keys, retain_keys, same_map}
use Rattle.std.specs.List.{range_with_len}
use Rattle.std.specs.Option.{option_map_or, option_or}
use Rattle.std.specs.Ordering.{eq_by_cmp}
use Rattle.std.specs.Prelude.{filter, is_some}
use Rattle.std.proofs.lemmas.Bool.{cases_Bool, cases_lt, false≢true}
use Rattle.std.proofs.lemmas.List.{get_or-map, get_or_past, length-map}
use Rattle.std.proofs.lemmas.List.Concat.{flat_map-cons}
use Rattle.qm_docset.specs.ListFacts.{map-map}
use Rattle.qm_schema.specs.Schema.{FieldFacts}
use Rattle.qm_schema.specs.Term.{TermKey, same_term, term_cmp, term_cmp_antisymmetric, term_cmp_total}
use Rattle.qm_schema.specs.declared.schema.option.IndexRecordOption.{IndexRecordOption}
use Rattle.qm_postings.specs.Kept.{Posted, document_from, held}
use Rattle.qm_postings.specs.Restriction.{keeping, restricted, rows_wanted}
use Rattle.qm_postings.specs.Rows.{Row, all_posted, posted, segment_of_rows}
use Rattle.qm_postings.specs.Segment.{Document, Occurrences, Segment, frequency, holds, keeps_lengths, length_id, no_document, occurrences, positions}
use Rattle.qm_postings.specs.Segment.{reads_freq, reads_positions}
use Rattle.qm_postings.proofs.FoundTerms.{found_in, found_in-both, found_in-other}

-- ---- what is said of a wanted term

pub kept-in : (wanted : TermKey → Bool) (document : Document) (t : TermKey) →
    get (keeping wanted document).terms t ≡ cond (wanted t) (get document.terms t) None
kept-in wanted document t = get-retain_keys document.terms wanted t (λ x tied. ap wanted (sym (term_cmp_antisymmetric t x tied)))

pub occurrences-all : (wanted : TermKey → Bool) (s : Segment) (t : TermKey) (d : ℕ) →
    occurrences (restricted wanted s) t d ≡ cond (wanted t) (occurrences s t d) None
occurrences-all wanted s t d = elim (cases_lt d (length s.documents)) [
  | inl here ↦ ap (λ (document : Document). get document.terms t) (get_or-map (keeping wanted) s.documents d no_document no_document here)
      ∙ kept-in wanted (get_or s.documents d no_document) t
  | inr past ↦
      let long = length-map s.documents (keeping wanted) in
      let none : occurrences s t d ≡ None = ap (λ (document : Document). get document.terms t) (get_or_past s.documents d no_document past)
      ∙ get-empty term_cmp t in
      ap (λ (document : Document). get document.terms t) (get_or_past (map (keeping wanted) s.documents) d no_document (omega (arith, long, past)))
      ∙ get-empty term_cmp t ∙ both-none (wanted t) ∙ sym (ap (λ o. cond (wanted t) o None) none)
]
  where
    both-none : (b : Bool) → None ≡ cond b (let o : Option Occurrences = None in o) None
    both-none true = refl
    both-none false = refl

module _ (wanted : TermKey → Bool) (s : Segment) (t : TermKey) (is : wanted t ≡ true) where
  pub occurrences-wanted : (d : ℕ) → occurrences (restricted wanted s) t d ≡ occurrences s t d
  occurrences-wanted d = occurrences-all wanted s t d ∙ ap (λ b. cond b (occurrences s t d) None) is

  pub holds-wanted : (d : ℕ) → holds (restricted wanted s) t d ≡ holds s t d
  holds-wanted d = ap is_some (occurrences-wanted d)

  pub frequency-wanted : (option : IndexRecordOption) (d : ℕ) → frequency (restricted wanted s) option t d ≡ frequency s option t d
  frequency-wanted option d = ap (λ o. cond (reads_freq s.schema option t.field) (option_map_or (λ (o : Occurrences). o.frequency) o 0) 1) (occurrences-wanted d)

  pub positions-wanted : (option : IndexRecordOption) (d : ℕ) → positions (restricted wanted s) option t d ≡ positions s option t d
  positions-wanted option d =
      ap (λ o. cond (reads_positions s.schema option t.field) (option_map_or (λ (o : Occurrences). o.positions) o []) []) (occurrences-wanted d)

-- length ids are as they were
pub length_id-restricted : (wanted : TermKey → Bool) (s : Segment) (field d : ℕ) → length_id (restricted wanted s) field d ≡ length_id s field d
length_id-restricted wanted s field d =
    ap (λ ids. cond (keeps_lengths s.schema field) (get_or ids field 0) 1) (elim (cases_lt d (length s.documents)) [
      | inl here ↦ ap (λ (document : Document). document.lengths) (get_or-map (keeping wanted) s.documents d no_document no_document here)
      | inr past ↦
          let long = length-map s.documents (keeping wanted) in
          ap (λ (document : Document). document.lengths)
          (get_or_past (map (keeping wanted) s.documents) d no_document (omega (arith, long, past)) ∙ sym (get_or_past s.documents d no_document past))
    ])

-- ---- it is made of the rows of the wanted terms

some-or-none : (o : Option Occurrences) → option_or o None ≡ o
some-or-none None = refl
some-or-none (Some o) = refl

unlike : (wanted : TermKey → Bool) (t u : TermKey) (b : Bool) → wanted t ≡ b → (wanted u ≡ b → ⊥) → eq_by_cmp term_cmp t u ≡ false
unlike wanted t u b is other = elim (cases_Bool (eq_by_cmp term_cmp t u)) [
  | inl same ↦ absurd (other (sym (ap wanted ((same_term t u).0 same)) ∙ is))
  | inr not_same ↦ not_same
]

module _ (wanted : TermKey → Bool) (d : ℕ) (t : TermKey) where
  found-row : (r : Row) (rows : List Row) → found_in d t (all_posted (r ∷ rows)) ≡ option_or (found_in d t (posted r)) (found_in d t (all_posted rows))
  found-row r rows = ap (found_in d t) (flat_map-cons posted r rows) ∙ found_in-both d t (posted r) (all_posted rows)

  none-of : (r : Row) → eq_by_cmp term_cmp t r.term ≡ false → found_in d t (posted r) ≡ None
  none-of r other = found_in-other d t r.term r.documents r.frequencies r.positions other

  found-wanted : (b : Bool) → wanted t ≡ b → (rows : List Row) →
      found_in d t (all_posted (rows_wanted wanted rows)) ≡ cond b (found_in d t (all_posted rows)) None
  found-wanted true is [] = refl
  found-wanted false is [] = refl
  found-wanted b is (r ∷ rows) = go b is (wanted r.term) refl (found-wanted b is rows)
    where
      go : (b : Bool) → wanted t ≡ b → (c : Bool) → wanted r.term ≡ c →
          found_in d t (all_posted (rows_wanted wanted rows)) ≡ cond b (found_in d t (all_posted rows)) None →
          found_in d t (all_posted (cond c (r ∷ rows_wanted wanted rows) (rows_wanted wanted rows))) ≡ cond b (found_in d t (all_posted (r ∷ rows))) None
      go true is true own rest = found-row r (rows_wanted wanted rows) ∙ ap (option_or (found_in d t (posted r))) rest ∙ sym (found-row r rows)
      go true is false own rest =
          rest ∙ sym (found-row r rows ∙ ap (λ o. option_or o (found_in d t (all_posted rows)))
          (none-of r (unlike wanted t r.term true is (λ h. false≢true (sym own ∙ h)))))
      go false is true own rest =
          found-row r (rows_wanted wanted rows)
          ∙ ap (λ o. option_or o (found_in d t (all_posted (rows_wanted wanted rows))))
          (none-of r (unlike wanted t r.term false is (λ h. false≢true (sym h ∙ own)))) ∙ rest
      go false is false own rest = rest

pub segment-wanted : (wanted : TermKey → Bool) (schema : List FieldFacts) (block_len : ℕ) (rows : List Row) (columns : List (List ℕ)) (count : ℕ) →
    segment_of_rows schema block_len (rows_wanted wanted rows) columns count ≡ restricted wanted (segment_of_rows schema block_len rows columns count)
segment-wanted wanted schema block_len rows columns count =
    let some : ℕ → Document = document_from (all_posted (rows_wanted wanted rows)) columns in
    let all : ℕ → Document = document_from (all_posted rows) columns in
    λ i. record {
      schema = schema;
      block_len = block_len;
      documents = ((λ i. map (λ d. document d i) (range_with_len 0 count)) ∙ sym (map-map (keeping wanted) all (range_with_len 0 count))) i;
      deleted = [];
    }
  where
    entries : List Posted → ℕ → List (TermKey × Occurrences)
    entries ps d = map held (filter (λ p. p.document == d) ps)

    terms : (d : ℕ) → from_entries {R = term_cmp} (entries (all_posted (rows_wanted wanted rows)) d) ≡ retain_keys
        (from_entries {R = term_cmp} (entries (all_posted rows) d)) wanted
    terms d = same_map term_cmp_total term_cmp_antisymmetric
        (from_entries (entries (all_posted (rows_wanted wanted rows)) d)) (retain_keys (from_entries (entries (all_posted rows) d)) wanted)
        (λ q. get-from_entries term_cmp_total (entries (all_posted (rows_wanted wanted rows)) d) q
        ∙ found-wanted wanted d q (wanted q) refl rows
        ∙ sym (get-retain_keys (from_entries (entries (all_posted rows) d)) wanted q (λ x tied. ap wanted (sym (term_cmp_antisymmetric q x tied)))
        ∙ ap (λ o. cond (wanted q) o None) (get-from_entries term_cmp_total (entries (all_posted rows) d) q)))

    document : (d : ℕ) → document_from (all_posted (rows_wanted wanted rows)) columns d ≡ keeping wanted (document_from (all_posted rows) columns d)
    document d = λ i. record { terms = terms d i; lengths = map (λ column. get_or column d 0) columns }
