-- The rows of a segment's reader, and the columns of its length ids, make the segment again.
use Rattle.std.proofs.Common.{◌≡◌, ℕ, ◌+◌, ◌<◌, ◌≤◌, cond, List, [], ◌∷◌, Option, length, map, drop, get_or, sum, sym, refl, ap, subst, ◌∙◌, arith, inl, inr}
use Rattle.std.specs.List.{range_with_len}
use Rattle.std.specs.List.Sorted.{IsStrictlySortedBy}
use Rattle.std.proofs.lemmas.Bool.{cases_Bool}
use Rattle.std.proofs.lemmas.List.{length-drop, length-take}
use Rattle.std.proofs.lemmas.List.Elements.{All-map}
use Rattle.std.proofs.lemmas.List.FromFn.{fill_by_all}
use Rattle.qm_docset.specs.Documents.{AreDocuments}
use Rattle.qm_docset.specs.ListFacts.{map-map}
use Rattle.qm_docset.specs.declared.alive_bitset.AliveBitSet.{AliveBitSet}
use Rattle.qm_schema.specs.Schema.{FieldFacts}
use Rattle.qm_schema.specs.Term.{term_cmp}
use Rattle.qm_postings.specs.Kept.{AreColumns, HavePositions, IsIndex, Posted, PostingsRange, in_range, positions_in, posted_of, segment_from}
use Rattle.qm_postings.specs.Reading.{IsOfRows, reader_of_arrays}
use Rattle.qm_postings.specs.Rows.{IsRow, MakeSegment, Row, column_of, columns_of, row_in, rows_in}
use Rattle.qm_postings.specs.Segment.{AscendFrom, Segment, keeps_lengths, length_id}
use Rattle.qm_postings.specs.StoredFacts.{AreDocuments-rest}
use Rattle.qm_postings.specs.declared.freq_reading_option.FreqReadingOption.TheVariants.{ReadFreq}
use Rattle.qm_postings.proofs.LaidRows.{posted-rows, stored-places}
use Rattle.qm_postings.proofs.LengthsKept.{count_of_documents, length_ids-column}

no_number : (xs : List ℕ) → length xs ≡ 0 → xs ≡ []
no_number [] none = refl
no_number (x ∷ xs) none = absurd (omega (arith, none))

-- the columns of a segment are those that it is kept with
pub columns-kept : (schema : List FieldFacts) (block_len : ℕ) (ps : List Posted) (columns : List (List ℕ)) (count : ℕ) →
    AreColumns schema count columns → columns ≡ columns_of (segment_from schema block_len ps columns count)
columns-kept schema block_len ps columns count are =
    let s : Segment = segment_from schema block_len ps columns count in
    fill_by_all (column_of s) columns (length schema) [] are.each (λ field below.
    elim (cases_Bool (keeps_lengths schema field)) [
      | inl keeps ↦ length_ids-column schema block_len ps columns count field are below keeps
          ∙ sym (ap (λ b. cond b (map (length_id s field) (range_with_len 0 (length s.documents))) []) keeps)
      | inr none ↦ no_number (get_or columns field []) (are.whole field below ∙ ap (λ b. cond b count 0) none)
          ∙ sym (ap (λ b. cond b (map (length_id s field) (range_with_len 0 (length s.documents))) []) none)
    ])

ascends-from : (low : ℕ) (xs : List ℕ) → AreDocuments xs → (0 < length xs → low ≤ get_or xs 0 0) → AscendFrom low xs
ascends-from low [] are first = tt
ascends-from low (x ∷ xs) are first = (
  first (omega arith),
  (let below = are.below_end 0 x (omega arith) in omega (arith, below)),
  ascends-from (x + 1) xs (AreDocuments-rest x xs are) (λ some. let next = are.ascending 0 (omega (arith, some)) in omega (arith, next)),
)

module _ (schema : List FieldFacts) (count : ℕ) (ranges : List PostingsRange) (ds fs ps : List ℕ)
    (index : IsIndex count ranges ds fs) (kept : HavePositions schema ranges ds fs ps) where
  -- what is kept of a term is a row of a segment
  row-kept : (i : ℕ) (d : PostingsRange) → i < length ranges → IsRow schema count (row_in ds fs ps (get_or ranges i d))
  row-kept i d l =
      let r = get_or ranges i d in
      let long_ds : length (in_range r ds) ≡ r.count = omega (arith, length-take r.count (drop r.start ds), length-drop r.start ds, index.within i d l) in
      let long_fs : length (in_range r fs) ≡ r.count =
      omega (arith, length-take r.count (drop r.start fs), length-drop r.start fs, index.within i d l, index.paired) in
      let long_ps : length (positions_in r ps) ≡ r.positions_count =
      omega (arith, length-take r.positions_count (drop r.positions_start ps), length-drop r.positions_start ps, kept.within i d l) in
      record {
        indexed = kept.indexed i d l;
        some = omega (arith, index.used i d l, long_ds);
        ascending = ascends-from 0 (in_range r ds) (index.documents i d l) (λ some. omega arith);
        below = index.below i d l;
        paired = long_fs ∙ sym long_ds;
        held = kept.held i d l;
        places = λ keeps. stored-places ReadFreq (in_range r ds) (in_range r fs) (positions_in r ps) (long_fs ∙ sym long_ds)
            (long_ps ∙ kept.counted i d l ∙ ap (λ b. cond b (sum (in_range r fs)) 0) keeps) (kept.ascending ReadFreq i d l);
        no_places = λ none. no_number (positions_in r ps) (long_ps ∙ kept.counted i d l ∙ ap (λ b. cond b (sum (in_range r fs)) 0) none);
      }

  terms-of_rows : map (λ r. r.term) (rows_in ranges ds fs ps) ≡ map (λ r. r.term) ranges
  terms-of_rows = map-map (λ (r : Row). r.term) (row_in ds fs ps) ranges

  module _ (block_len : ℕ) (columns : List (List ℕ)) (alive : Option AliveBitSet) (few : count ≤ 2147483647)
      (cut : 0 < block_len) (short : block_len ≤ 128) (lengths : AreColumns schema count columns) where
    pub reader-of_rows : IsOfRows (reader_of_arrays schema block_len ranges ds fs ps columns alive count)
    reader-of_rows =
        let posted = posted_of ranges ds fs ps in
        let own = columns-kept schema block_len posted columns count lengths in
        let many = sym (count_of_documents schema block_len posted columns count) in
        let rows = rows_in ranges ds fs ps in
        let made : MakeSegment schema block_len count columns rows = record {
          cut = cut;
          short = short;
          few = few;
          lengths = lengths;
          are_rows = record {
            terms = subst (IsStrictlySortedBy term_cmp) (sym terms-of_rows) index.terms;
            each = All-map (IsRow schema count) (row_in ds fs ps) ranges row-kept;
          };
        } in
        record {
          made = subst (λ n. MakeSegment schema block_len n (columns_of (segment_from schema block_len posted columns count)) rows) many (subst (λ cs. MakeSegment schema block_len count cs rows) own made);
          same = λ i. record {
            segment = segment_from schema block_len (sym (posted-rows ranges ds fs ps) i) (sym own i) (sym many i);
            terms = terms-of_rows i;
            rows = rows;
          };
        }
