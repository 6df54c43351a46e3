-- What a segment says of its terms without their positions; and that it is made of rows without them.
use Rattle.std.proofs.Common.{◌≡◌, ◌==◌, ℕ, true, false, ◌&&◌, cond, List, [], ◌∷◌, ◌++◌, drop, length, get_or, map, Option, Some, None, refl, ap, sym, ◌∙◌, arith, inl, inr}
use Rattle.std.specs.FinMap.{entries, find, from_entries, get, get-empty, get-entries, get-from_entries, same_map}
use Rattle.std.specs.List.{range_with_len, slice_get}
use Rattle.std.specs.Option.{option_map, option_map_or}
use Rattle.std.specs.Ordering.{eq_by_cmp}
use Rattle.std.specs.Prelude.{filter, is_some}
use Rattle.std.proofs.lemmas.Bool.{cases_lt}
use Rattle.std.proofs.lemmas.List.{get_or-map, get_or_past, length-map, map-append}
use Rattle.std.proofs.lemmas.List.Concat.{flat_map-cons}
use Rattle.std.proofs.lemmas.Option.{slice_get-map}
use Rattle.qm_docset.specs.ListFacts.{map-map}
use Rattle.qm_schema.specs.Option.{has_freq}
use Rattle.qm_schema.specs.Schema.{FieldFacts}
use Rattle.qm_schema.specs.Term.{TermKey, term_cmp, term_cmp_antisymmetric, term_cmp_total}
use Rattle.qm_schema.specs.declared.schema.option.IndexRecordOption.{IndexRecordOption}
use Rattle.qm_schema.specs.declared.schema.option.IndexRecordOption.TheVariants.{Basic, WithFreqs, WithFreqsAndPositions}
use Rattle.qm_postings.specs.Kept.{Posted, document_from, held, posted_together}
use Rattle.qm_postings.specs.Restriction.{unplaced, unplaced_document, unplaced_field, unplaced_occurrences, unplaced_row, without_positions}
use Rattle.qm_postings.specs.Rows.{Row, all_posted, posted, segment_of_rows}
use Rattle.qm_postings.specs.Segment.{Document, Occurrences, Segment, field_option, frequency, holds, keeps_lengths, length_id, no_document, occurrences}
use Rattle.qm_postings.specs.Segment.{reads_freq}
use Rattle.qm_postings.proofs.ArrayEntries.{drop-nil, take-nil}
use Rattle.qm_postings.proofs.FoundTerms.{found_in}

abbrev unplaced_entry : TermKey × Occurrences → TermKey × Occurrences
unplaced_entry e = (e.0, unplaced_occurrences e.1)

find-unplaced : (t : TermKey) (es : List (TermKey × Occurrences)) →
    find term_cmp t (map unplaced_entry es) ≡ option_map unplaced_occurrences (find term_cmp t es)
find-unplaced t [] = refl
find-unplaced t (e ∷ es) =
    elim (eq_by_cmp term_cmp t e.0) as (λ b. cond b (Some (unplaced_occurrences e.1)) (find term_cmp t (map unplaced_entry es))
    ≡ option_map unplaced_occurrences (cond b (Some e.1) (find term_cmp t es))) [
      | true ↦ refl
      | false ↦ find-unplaced t es
    ]

-- what is said of a term in a document
pub get-unplaced : (document : Document) (t : TermKey) →
    get (unplaced_document document).terms t ≡ option_map unplaced_occurrences (get document.terms t)
get-unplaced document t =
    get-from_entries term_cmp_total (map unplaced_entry (entries document.terms)) t
    ∙ find-unplaced t (entries document.terms) ∙ ap (option_map unplaced_occurrences) (sym (get-entries document.terms t))

occurrences-unplaced : (s : Segment) (t : TermKey) (d : ℕ) → occurrences (unplaced s) t d ≡ option_map unplaced_occurrences (occurrences s t d)
occurrences-unplaced s t d = elim (cases_lt d (length s.documents)) [
  | inl here ↦ ap (λ (document : Document). get document.terms t) (get_or-map unplaced_document s.documents d no_document no_document here)
      ∙ get-unplaced (get_or s.documents d no_document) t
  | inr past ↦
      let long = length-map s.documents unplaced_document in
      ap (λ (document : Document). get document.terms t) (get_or_past (map unplaced_document s.documents) d no_document (omega (arith, long, past)))
      ∙ get-empty term_cmp t
      ∙ sym (ap (λ (document : Document). option_map unplaced_occurrences (get document.terms t)) (get_or_past s.documents d no_document past)
      ∙ ap (option_map unplaced_occurrences) (get-empty term_cmp t))
]

-- ---- the schema

some-mapped : (o : Option Occurrences) → is_some (option_map unplaced_occurrences o) ≡ is_some o
some-mapped None = refl
some-mapped (Some o) = refl

often-mapped : (o : Option Occurrences) → option_map_or (λ (o : Occurrences). o.frequency) (option_map unplaced_occurrences o) 0
    ≡ option_map_or (λ (o : Occurrences). o.frequency) o 0
often-mapped None = refl
often-mapped (Some o) = refl

counts-mapped : (o : Option IndexRecordOption) → option_map_or has_freq (option_map without_positions o) false ≡ option_map_or has_freq o false
counts-mapped None = refl
counts-mapped (Some Basic) = refl
counts-mapped (Some WithFreqs) = refl
counts-mapped (Some WithFreqsAndPositions) = refl

field-mapped : (schema : List FieldFacts) (field : ℕ) → slice_get (map unplaced_field schema) field ≡ option_map unplaced_field (slice_get schema field)
field-mapped schema field = slice_get-map unplaced_field schema field

option-mapped : (o : Option FieldFacts) → option_map_or (λ (f : FieldFacts). f.indexed) (option_map unplaced_field o) None
    ≡ option_map without_positions (option_map_or (λ (f : FieldFacts). f.indexed) o None)
option-mapped None = refl
option-mapped (Some facts) = refl

lengths-mapped : (o : Option FieldFacts) → option_map_or (λ (f : FieldFacts). f.lengths) (option_map unplaced_field o) false
    ≡ option_map_or (λ (f : FieldFacts). f.lengths) o false
lengths-mapped None = refl
lengths-mapped (Some facts) = refl

keeps_lengths-unplaced : (schema : List FieldFacts) (field : ℕ) → keeps_lengths (map unplaced_field schema) field ≡ keeps_lengths schema field
keeps_lengths-unplaced schema field =
    ap (λ o. option_map_or (λ (f : FieldFacts). f.lengths) o false) (field-mapped schema field) ∙ lengths-mapped (slice_get schema field)

reads_freq-unplaced : (schema : List FieldFacts) (option : IndexRecordOption) (field : ℕ) →
    reads_freq (map unplaced_field schema) option field ≡ reads_freq schema option field
reads_freq-unplaced schema option field =
    ap (λ o. has_freq option && option_map_or has_freq o false)
    (ap (λ o. option_map_or (λ (f : FieldFacts). f.indexed) o None) (field-mapped schema field) ∙ option-mapped (slice_get schema field))
    ∙ ap (λ b. has_freq option && b) (counts-mapped (field_option schema field))

-- ---- what is said of a term

pub holds-unplaced : (s : Segment) (t : TermKey) (d : ℕ) → holds (unplaced s) t d ≡ holds s t d
holds-unplaced s t d = ap is_some (occurrences-unplaced s t d) ∙ some-mapped (occurrences s t d)

pub frequency-unplaced : (s : Segment) (option : IndexRecordOption) (t : TermKey) (d : ℕ) → frequency (unplaced s) option t d ≡ frequency s option t d
frequency-unplaced s option t d =
    let often : option_map_or (λ (o : Occurrences). o.frequency) (occurrences (unplaced s) t d) 0 ≡ option_map_or
    (λ (o : Occurrences). o.frequency) (occurrences s t d) 0 =
    ap (λ o. option_map_or (λ (o : Occurrences). o.frequency) o 0) (occurrences-unplaced s t d) ∙ often-mapped (occurrences s t d) in
    λ i. cond (reads_freq-unplaced s.schema option t.field i) (often i) 1

pub length_id-unplaced : (s : Segment) (field d : ℕ) → length_id (unplaced s) field d ≡ length_id s field d
length_id-unplaced s field d =
    let lengths : (get_or (map unplaced_document s.documents) d no_document).lengths ≡ (get_or s.documents d no_document).lengths =
    elim (cases_lt d (length s.documents)) [
      | inl here ↦ ap (λ (document : Document). document.lengths) (get_or-map unplaced_document s.documents d no_document no_document here)
      | inr past ↦
          let long = length-map s.documents unplaced_document in
          ap (λ (document : Document). document.lengths)
          (get_or_past (map unplaced_document s.documents) d no_document (omega (arith, long, past)) ∙ sym (get_or_past s.documents d no_document past))
    ] in
    λ i. cond (keeps_lengths-unplaced s.schema field i) (get_or (lengths i) field 0) 1

-- ---- it is made of rows without positions

abbrev unplaced_posted : Posted → Posted
unplaced_posted p = record { term = p.term; document = p.document; frequency = p.frequency; positions = [] }

together-unplaced : (t : TermKey) (ds fs ps : List ℕ) → posted_together t ds fs [] ≡ map unplaced_posted (posted_together t ds fs ps)
together-unplaced t [] fs ps = refl
together-unplaced t (d ∷ ds) [] ps = refl
together-unplaced t (d ∷ ds) (f ∷ fs) ps =
    (λ i. record { term = t; document = d; frequency = f; positions = take-nil f i } ∷ posted_together t ds fs (drop-nil f i))
    ∙ ap (λ l. record { term = t; document = d; frequency = f; positions = [] } ∷ l) (together-unplaced t ds fs (drop f ps))

all-unplaced : (rows : List Row) → all_posted (map unplaced_row rows) ≡ map unplaced_posted (all_posted rows)
all-unplaced [] = refl
all-unplaced (r ∷ rows) =
    flat_map-cons posted (unplaced_row r) (map unplaced_row rows)
    ∙ (λ i. together-unplaced r.term r.documents r.frequencies r.positions i ++ all-unplaced rows i)
    ∙ sym (map-append unplaced_posted (posted r) (all_posted rows))
    ∙ ap (map unplaced_posted) (sym (flat_map-cons posted r rows))

filter-unplaced : (d : ℕ) (ps : List Posted) →
    filter (λ p. p.document == d) (map unplaced_posted ps) ≡ map unplaced_posted (filter (λ p. p.document == d) ps)
filter-unplaced d [] = refl
filter-unplaced d (p ∷ ps) =
    elim (p.document == d) as (λ b. cond b (unplaced_posted p ∷ filter (λ p. p.document == d) (map unplaced_posted ps))
    (filter (λ p. p.document == d) (map unplaced_posted ps))
    ≡ map unplaced_posted (cond b (p ∷ filter (λ p. p.document == d) ps) (filter (λ p. p.document == d) ps))) [
      | true ↦ ap (λ l. unplaced_posted p ∷ l) (filter-unplaced d ps)
      | false ↦ filter-unplaced d ps
    ]

found-unplaced : (d : ℕ) (t : TermKey) (ps : List Posted) → found_in d t (map unplaced_posted ps) ≡ option_map unplaced_occurrences (found_in d t ps)
found-unplaced d t ps =
    let own = filter (λ (p : Posted). p.document == d) ps in
    ap (λ l. find term_cmp t (map held l)) (filter-unplaced d ps)
    ∙ ap (find term_cmp t) (map-map held unplaced_posted own ∙ sym (map-map unplaced_entry held own))
    ∙ find-unplaced t (map held own)

pub segment-unplaced : (schema : List FieldFacts) (block_len : ℕ) (rows : List Row) (columns : List (List ℕ)) (count : ℕ) →
    segment_of_rows (map unplaced_field schema) block_len (map unplaced_row rows) columns count ≡ unplaced (segment_of_rows schema block_len rows columns count)
segment-unplaced schema block_len rows columns count =
    λ i. record {
      schema = map unplaced_field schema;
      block_len = block_len;
      documents = ((λ i. map (λ d. document d i) (range_with_len 0 count))
          ∙ sym (map-map unplaced_document (document_from (all_posted rows) columns) (range_with_len 0 count))) i;
      deleted = [];
    }
  where
    own : ℕ → List Posted → List (TermKey × Occurrences)
    own d ps = map held (filter (λ p. p.document == d) ps)

    terms : (d : ℕ) → from_entries {R = term_cmp} (own d (all_posted (map unplaced_row rows))) ≡ from_entries
        (map unplaced_entry (entries (from_entries {R = term_cmp} (own d (all_posted rows)))))
    terms d =
        let whole = from_entries {R = term_cmp} (own d (all_posted rows)) in
        same_map term_cmp_total term_cmp_antisymmetric (from_entries (own d (all_posted (map unplaced_row rows))))
        (from_entries (map unplaced_entry (entries whole))) (λ q.
        get-from_entries term_cmp_total (own d (all_posted (map unplaced_row rows))) q
        ∙ ap (found_in d q) (all-unplaced rows) ∙ found-unplaced d q (all_posted rows)
        ∙ ap (option_map unplaced_occurrences) (sym (get-from_entries term_cmp_total (own d (all_posted rows)) q) ∙ get-entries whole q)
        ∙ sym (find-unplaced q (entries whole)) ∙ sym (get-from_entries term_cmp_total (map unplaced_entry (entries whole)) q))

    document : (d : ℕ) → document_from (all_posted (map unplaced_row rows)) columns d ≡ unplaced_document (document_from (all_posted rows) columns d)
    document d = λ i. record { terms = terms d i; lengths = map (λ column. get_or column d 0) columns }
