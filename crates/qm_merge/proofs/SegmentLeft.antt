-- The rows and the columns of the documents that were not deleted make the segment of these.
use Rattle.std.proofs.Common.{◌≡◌, ℕ, ◌+◌, ◌-◌, ◌<◌, ◌≤◌, Bool, true, false, cond, [], length, get_or, map, Option, None, Some, is_some, refl, ap, sym, ◌∙◌, arith, inl, inr}
use Rattle.std.specs.List.{range_with_len}
use Rattle.std.specs.Prelude.{All, filter, slice_index}
use Rattle.std.proofs.lemmas.Bool.{cases_Bool, cases_lt}
use Rattle.std.proofs.lemmas.List.{get_or-map, get_or_past, length-map}
use Rattle.std.proofs.lemmas.List.FromFn.{fill_by_all, get_or-map-range_with_len, length-map-range_with_len}
use Rattle.qm_docset.specs.ListFacts.{filter-range_same, map-map, map-same}
use Rattle.qm_docset.specs.Members.{members_between}
use Rattle.qm_docset.proofs.MembersLemmas.{length-members_between}
use Rattle.qm_postings.specs.Kept.{AreColumns, document_from}
use Rattle.qm_postings.specs.Reading.{IsOfRows, Reader}
use Rattle.qm_postings.specs.Rows.{MakeSegment, all_posted, column_of, columns_of, segment_of_rows}
use Rattle.qm_postings.specs.Segment.{Document, Segment, alive_documents, is_alive, keeps_lengths, length_id, no_document}
use Rattle.qm_merge.specs.AliveRows.{alive_column, alive_columns, ids_left, new_number, new_numbers, number_in, rows_left}
use Rattle.qm_merge.specs.Merging.{alive_only}
use Rattle.qm_merge.proofs.AlivePlaces.{StandsAt, rank, rank-next, rank-rises, stands-at}
use Rattle.qm_merge.proofs.FoundInRows.{same-document}
use Rattle.qm_merge.proofs.RowsLeft.{AreLeft, AreNumbers, rows-are_left}
use Rattle.qm_merge.proofs.SegmentOfBoth.{length-column_of, length-kept, made-document}

-- ---- the table of new numbers

module _ (s : Segment) where
  abbrev n : ℕ
  n = length s.documents

  abbrev count : ℕ
  count = length (alive_documents s)

  number-here : (d : ℕ) → d < length s.documents → number_in (new_numbers s) d ≡ new_number s d
  number-here d below = get_or-map-range_with_len (new_number s) 0 (length s.documents) d d None below (omega arith)

  number-past : (d : ℕ) → length s.documents ≤ d → number_in (new_numbers s) d ≡ None
  number-past d past = get_or_past (new_numbers s) d None (omega (arith, past, length-map-range_with_len (new_number s) 0 (length s.documents)))

  -- what a number says of its document
  record Numbered (d k : ℕ) : Type 0 where
    passes : is_alive s d ≡ true
    place : k ≡ rank (is_alive s) d
    below : k < length (alive_documents s)

  numbered : (d k : ℕ) → number_in (new_numbers s) d ≡ Some k → Numbered d k
  numbered d k is = elim (cases_lt d (length s.documents)) [
    | inl here ↦ by (is_alive s d) refl (sym (number-here d here) ∙ is) here
    | inr past ↦ absurd (let both : None ≡ Some k = sym (number-past d past) ∙ is in cc)
  ]
    where
      by : (b : Bool) → is_alive s d ≡ b → cond b (Some (rank (is_alive s) d)) None ≡ Some k → d < length s.documents → Numbered d k
      by true alive own here =
          let place : rank (is_alive s) d ≡ k = cc in record {
            passes = alive;
            place = sym place;
            below = omega (arith, place, rank-next (is_alive s) d alive, rank-rises (is_alive s) (d + 1) (length s.documents) (omega (arith, here)));
          }
      by false dead own here = absurd (cc)

  are-numbers : AreNumbers (new_numbers s) (is_alive s) (length (alive_documents s))
  are-numbers = record {
    passes = λ d k is. (numbered d k is).passes;
    place = λ d k is. (numbered d k is).place;
    below = λ d k is. (numbered d k is).below;
  }

  -- the alive document at each place has the place as its number
  abbrev alive-at : ℕ → ℕ
  alive-at e = get_or (alive_documents s) e 0

  stands : (e : ℕ) → e < length (alive_documents s) → StandsAt (is_alive s) (length s.documents) e (alive-at e)
  stands e below = stands-at (is_alive s) (length s.documents) e 0 below

  number-of_alive : (e : ℕ) → e < length (alive_documents s) → number_in (new_numbers s) (alive-at e) ≡ Some e
  number-of_alive e below =
      let at = stands e below in
      number-here (alive-at e) at.below
      ∙ ap (λ b. cond b (Some (rank (is_alive s) (alive-at e))) (let o : Option ℕ = None in o)) at.passes
      ∙ ap Some at.place

  few-alive : length (alive_documents s) ≤ length s.documents
  few-alive = omega (arith, length-members_between (is_alive s) 0 (length s.documents))

  -- ---- columns

  length-alive_column : (field : ℕ) → length (alive_column s field) ≡ cond (keeps_lengths s.schema field) (length (alive_documents s)) 0
  length-alive_column field =
      length-kept (keeps_lengths s.schema field) (map (length_id s field) (alive_documents s))
      ∙ ap (λ m. cond (keeps_lengths s.schema field) m 0) (length-map (alive_documents s) (length_id s field))

  alive-columns-are : AreColumns s.schema (length (alive_documents s)) (alive_columns s)
  alive-columns-are = record {
    each = length-map-range_with_len (alive_column s) 0 (length s.schema);
    whole = λ field below.
        ap length (get_or-map-range_with_len (alive_column s) 0 (length s.schema) field field [] below (omega arith)) ∙ length-alive_column field;
  }

  id-of_alive : (e field : ℕ) → e < length (alive_documents s) → get_or (alive_column s field) e 0 ≡ get_or (column_of s field) (alive-at e) 0
  id-of_alive e field below = go (keeps_lengths s.schema field)
    where
      go : (b : Bool) → get_or (cond b (map (length_id s field) (alive_documents s)) []) e 0
          ≡ get_or (cond b (map (length_id s field) (range_with_len 0 (length s.documents))) []) (alive-at e) 0
      go true = get_or-map (length_id s field) (alive_documents s) e 0 0 below
          ∙ sym (get_or-map-range_with_len (length_id s field) 0 (length s.documents) (alive-at e) (alive-at e) 0 (stands e below).below (omega arith))
      go false = refl

  ids-of_alive : (e : ℕ) → e < length (alive_documents s) → map (λ c. get_or c e 0) (alive_columns s) ≡ map (λ c. get_or c (alive-at e) 0) (columns_of s)
  ids-of_alive e below =
      map-map (λ c. get_or c e 0) (alive_column s) (range_with_len 0 (length s.schema))
      ∙ (λ i. map (λ field. id-of_alive e field below i) (range_with_len 0 (length s.schema)))
      ∙ sym (map-map (λ c. get_or c (alive-at e) 0) (column_of s) (range_with_len 0 (length s.schema)))

-- ---- columns by the table

module _ (s : Segment) where
  pub column-fits : (field : ℕ) → length (column_of s field) ≤ length (new_numbers s)
  column-fits field =
      let long = length-map-range_with_len (new_number s) 0 (length s.documents) in
      elim (cases_Bool (keeps_lengths s.schema field)) [
        | inl keeps ↦ omega (arith, long, length-column_of s field ∙ ap (λ b. cond b (length s.documents) 0) keeps)
        | inr none ↦ omega (arith, long, length-column_of s field ∙ ap (λ b. cond b (length s.documents) 0) none)
      ]

  some-number : (d : ℕ) → d < length s.documents → is_some (number_in (new_numbers s) d) ≡ is_alive s d
  some-number d below = ap is_some (number-here s d below) ∙ either (is_alive s d)
    where
      either : (b : Bool) → is_some (cond b (Some (rank (is_alive s) d)) None) ≡ b
      either true = refl
      either false = refl

  numbered-alive : filter (λ d. is_some (number_in (new_numbers s) d)) (range_with_len 0 (length s.documents)) ≡ alive_documents s
  unfolding members_between
  numbered-alive =
      let all : length s.documents ≡ length s.documents - 0 = omega arith in
      filter-range_same (λ d. is_some (number_in (new_numbers s) d)) (is_alive s) 0 (length s.documents) (λ d above below. some-number d (omega (arith, below)))
      ∙ ap (λ m. filter (is_alive s) (range_with_len 0 m)) all

  alive-below : All (λ d. d < length s.documents) (alive_documents s)
  alive-below = λ e default below. (stands-at (is_alive s) (length s.documents) e default below).below

  pub ids-left : (field : ℕ) → ids_left (new_numbers s) (column_of s field) ≡ alive_column s field
  ids-left field = go (keeps_lengths s.schema field)
    where
      go : (b : Bool) → ids_left (new_numbers s) (cond b (map (length_id s field) (range_with_len 0 (length s.documents))) [])
          ≡ cond b (map (length_id s field) (alive_documents s)) []
      go true =
          ap (λ m. map (slice_index (map (length_id s field) (range_with_len 0 (length s.documents))))
          (filter (λ d. is_some (number_in (new_numbers s) d)) (range_with_len 0 m))) (length-map-range_with_len (length_id s field) 0 (length s.documents))
          ∙ ap (map (slice_index (map (length_id s field) (range_with_len 0 (length s.documents))))) numbered-alive
          ∙ map-same (λ d. d < length s.documents) (slice_index (map (length_id s field) (range_with_len 0 (length s.documents)))) (length_id s field)
          (alive_documents s) alive-below (λ d below. get_or-map-range_with_len (length_id s field) 0 (length s.documents) d d 0 below (omega arith))
      go false = refl

-- ---- the segment

module _ (r : Reader) (of_rows : IsOfRows r) where
  rows-left : AreLeft (new_numbers r.segment) r.segment.schema (length (alive_documents r.segment)) r.rows (rows_left (new_numbers r.segment) r.rows)
  rows-left = rows-are_left (new_numbers r.segment) (is_alive r.segment) (length (alive_documents r.segment)) (are-numbers r.segment)
      (omega (arith, few-alive r.segment, of_rows.made.few)) r.segment.schema (length r.segment.documents) r.rows
      of_rows.made.are_rows.terms of_rows.made.are_rows.each

  pub left-make : MakeSegment r.segment.schema r.segment.block_len (length (alive_documents r.segment)) (alive_columns r.segment)
      (rows_left (new_numbers r.segment) r.rows)
  left-make = record {
    cut = of_rows.made.cut;
    short = of_rows.made.short;
    few = omega (arith, few-alive r.segment, of_rows.made.few);
    lengths = alive-columns-are r.segment;
    are_rows = record { terms = rows-left.ascend; each = rows-left.each };
  }

  pub documents-left : segment_of_rows r.segment.schema r.segment.block_len (rows_left (new_numbers r.segment) r.rows) (alive_columns r.segment)
      (length (alive_documents r.segment)) ≡ alive_only r.segment
  documents-left =
      let s = r.segment in
      let made : ℕ → Document = document_from (all_posted (rows_left (new_numbers s) r.rows)) (alive_columns s) in
      let taken : ℕ → Document = λ d. get_or s.documents d no_document in
      let all = fill_by_all made (map taken (alive_documents s)) (length (alive_documents s)) no_document (length-map (alive_documents s) taken)
      (λ e below.
      let a = alive-at s e in
      get_or-map taken (alive_documents s) e 0 no_document below
      ∙ made-document r of_rows a (stands s e below).below
      ∙ sym (same-document (all_posted (rows_left (new_numbers s) r.rows)) (all_posted r.rows) (alive_columns s) (columns_of s) e a
      (λ t. rows-left.found e a t (number-of_alive s e below)) (ids-of_alive s e below))) in
      λ i. record { schema = s.schema; block_len = s.block_len; documents = sym all i; deleted = [] }
