-- The rows and the columns of two segments, joined, make the segment of the documents of both.
use Rattle.std.proofs.Common.{◌≡◌, ℕ, ◌+◌, ◌-◌, ◌<◌, ◌≤◌, Bool, true, false, cond, List, [], ◌++◌, length, get_or, map, refl, ap, subst, sym, ◌∙◌, arith, inl, inr}
use Rattle.std.specs.List.{range_with_len}
use Rattle.std.specs.Prelude.{All}
use Rattle.std.proofs.lemmas.Bool.{cases_Bool, cases_lt}
use Rattle.std.proofs.lemmas.List.{get_or-append_right, get_or_append_left, length-append}
use Rattle.std.proofs.lemmas.List.Elements.{All-map, All-weaker}
use Rattle.std.proofs.lemmas.List.FromFn.{fill_by_all, get_or-map-range_with_len, length-map-range_with_len}
use Rattle.qm_docset.specs.ListFacts.{map-map}
use Rattle.qm_schema.specs.Term.{TermKey, term_cmp}
use Rattle.std.specs.List.Sorted.{IsStrictlySortedBy}
use Rattle.qm_postings.specs.Kept.{AreColumns, document_from}
use Rattle.qm_postings.specs.Reading.{IsOfRows, Reader}
use Rattle.qm_postings.specs.Rows.{IsRow, MakeSegment, Row, all_posted, column_of, columns_of, segment_of_rows}
use Rattle.qm_postings.specs.Segment.{Document, Segment, keeps_lengths, length_id, no_document, without}
use Rattle.qm_postings.proofs.RowTerms.{terms_of_rows}
use Rattle.qm_merge.specs.JoinedRows.{column_of_both, columns_of_both, row_behind, rows_of_both}
use Rattle.qm_merge.specs.Merging.{AreAlike, joined}
use Rattle.qm_merge.proofs.FoundInRows.{found_among, same-document}
use Rattle.qm_merge.proofs.RowsOfBoth.{IsRowBehind, found_among-behind, row-is_behind}
use Rattle.qm_merge.proofs.TermsOfBoth.{AreOfBoth, rows-of_both}

-- ---- the documents that rows and columns make

-- a segment's documents are those that its rows and columns make
pub made-documents : (r : Reader) → IsOfRows r →
    r.segment.documents ≡ map (document_from (all_posted r.rows) (columns_of r.segment)) (range_with_len 0 (length r.segment.documents))
made-documents r of_rows = ap (λ (q : Reader). q.segment.documents) (sym of_rows.same)

pub made-document : (r : Reader) → IsOfRows r → (d : ℕ) → d < length r.segment.documents →
    get_or r.segment.documents d no_document ≡ document_from (all_posted r.rows) (columns_of r.segment) d
made-document r of_rows d below =
    ap (λ ds. get_or ds d no_document) (made-documents r of_rows)
    ∙ get_or-map-range_with_len (document_from (all_posted r.rows) (columns_of r.segment)) 0 (length r.segment.documents) d d no_document below (omega arith)

-- ---- columns

pub length-kept : (keeps : Bool) (xs : List ℕ) → length (cond keeps xs []) ≡ cond keeps (length xs) 0
length-kept true xs = refl
length-kept false xs = refl

pub length-column_of : (s : Segment) (field : ℕ) → length (column_of s field) ≡ cond (keeps_lengths s.schema field) (length s.documents) 0
length-column_of s field =
    length-kept (keeps_lengths s.schema field) (map (length_id s field) (range_with_len 0 (length s.documents)))
    ∙ ap (λ n. cond (keeps_lengths s.schema field) n 0) (length-map-range_with_len (length_id s field) 0 (length s.documents))

module _ (s t : Segment) (alike : AreAlike s t) where
  same-keeps : (field : ℕ) → keeps_lengths t.schema field ≡ keeps_lengths s.schema field
  same-keeps field = ap (λ schema. keeps_lengths schema field) (sym alike.schema)

  length-column_of_both : (field : ℕ) → length (column_of_both s t field) ≡ cond (keeps_lengths s.schema field) (length s.documents + length t.documents) 0
  length-column_of_both field =
      length-append (column_of s field) (column_of t field)
      ∙ (λ i. length-column_of s field i + (length-column_of t field ∙ ap (λ b. cond b (length t.documents) 0) (same-keeps field)) i)
      ∙ sums (keeps_lengths s.schema field)
    where
      sums : (b : Bool) → cond b (length s.documents) 0 + cond b (length t.documents) 0 ≡ cond b (length s.documents + length t.documents) 0
      sums true = refl
      sums false = refl

  pub columns-are : AreColumns s.schema (length s.documents + length t.documents) (columns_of_both s t)
  columns-are = record {
    each = length-map-range_with_len (column_of_both s t) 0 (length s.schema);
    whole = λ field below.
        ap length (get_or-map-range_with_len (column_of_both s t) 0 (length s.schema) field field [] below (omega arith)) ∙ length-column_of_both field;
  }

  -- what a column of both says of a document of the first
  id-of_first : (field d : ℕ) → d < length s.documents → get_or (column_of_both s t field) d 0 ≡ get_or (column_of s field) d 0
  id-of_first field d below = elim (cases_Bool (keeps_lengths s.schema field)) [
    | inl keeps ↦ get_or_append_left (column_of s field) (column_of t field) 0 d
        (omega (arith, below, length-column_of s field ∙ ap (λ b. cond b (length s.documents) 0) keeps))
    | inr none ↦ ap (λ l. get_or l d 0) ((λ i. cond (none i) (map (length_id s field) (range_with_len 0 (length s.documents))) []
        ++ cond ((same-keeps field ∙ none) i) (map (length_id t field) (range_with_len 0 (length t.documents))) []))
        ∙ sym (ap (λ b. get_or (cond b (map (length_id s field) (range_with_len 0 (length s.documents))) []) d 0) none)
  ]

  -- and of one of the second
  id-of_second : (field d : ℕ) → length s.documents ≤ d → get_or (column_of_both s t field) d 0 ≡ get_or (column_of t field) (d - length s.documents) 0
  id-of_second field d past = elim (cases_Bool (keeps_lengths s.schema field)) [
    | inl keeps ↦ get_or-append_right (column_of s field) (column_of t field) (length s.documents) d 0
        (length-column_of s field ∙ ap (λ b. cond b (length s.documents) 0) keeps) past
    | inr none ↦ ap (λ l. get_or l d 0) ((λ i. cond (none i) (map (length_id s field) (range_with_len 0 (length s.documents))) []
        ++ cond ((same-keeps field ∙ none) i) (map (length_id t field) (range_with_len 0 (length t.documents))) []))
        ∙ sym (ap (λ b. get_or (cond b (map (length_id t field) (range_with_len 0 (length t.documents))) []) (d - length s.documents) 0) (same-keeps field ∙ none))
  ]

  ids-of_first : (d : ℕ) → d < length s.documents → map (λ c. get_or c d 0) (columns_of_both s t) ≡ map (λ c. get_or c d 0) (columns_of s)
  ids-of_first d below =
      map-map (λ c. get_or c d 0) (column_of_both s t) (range_with_len 0 (length s.schema))
      ∙ (λ i. map (λ field. id-of_first field d below i) (range_with_len 0 (length s.schema)))
      ∙ sym (map-map (λ c. get_or c d 0) (column_of s) (range_with_len 0 (length s.schema)))

  ids-of_second : (d : ℕ) → length s.documents ≤ d → map (λ c. get_or c d 0) (columns_of_both s t) ≡ map (λ c. get_or c (d - length s.documents) 0) (columns_of t)
  ids-of_second d past =
      map-map (λ c. get_or c d 0) (column_of_both s t) (range_with_len 0 (length s.schema))
      ∙ (λ i. map (λ field. id-of_second field d past i) (range_with_len 0 (length (alike.schema i))))
      ∙ sym (map-map (λ c. get_or c (d - length s.documents) 0) (column_of t) (range_with_len 0 (length t.schema)))

-- ---- the segment of both

module _ (r q : Reader) (of_first : IsOfRows r) (of_second : IsOfRows q) (alike : AreAlike r.segment q.segment)
    (few : length r.segment.documents + length q.segment.documents ≤ 2147483647) where
  abbrev n : ℕ
  n = length r.segment.documents

  abbrev count : ℕ
  count = length r.segment.documents + length q.segment.documents

  abbrev behind : List Row
  behind = map (row_behind (length r.segment.documents)) q.rows

  terms-behind : terms_of_rows behind ≡ terms_of_rows q.rows
  terms-behind = map-map (λ (u : Row). u.term) (row_behind n) q.rows

  rows-behind : All (IsRowBehind r.segment.schema n count) behind
  rows-behind = All-map (IsRowBehind r.segment.schema n count) (row_behind n) q.rows
      (All-weaker (IsRow q.segment.schema (length q.segment.documents)) (λ u. IsRowBehind r.segment.schema n count (row_behind n u))
      (λ u is. row-is_behind r.segment.schema n (length q.segment.documents) u (omega (arith, few))
      (subst (λ schema. IsRow schema (length q.segment.documents) u) (sym alike.schema) is))
      q.rows of_second.made.are_rows.each)

  of_both : AreOfBoth r.segment.schema n count r.rows behind (rows_of_both r q)
  of_both = rows-of_both r.segment.schema n count (omega arith) r.rows behind of_first.made.are_rows.terms of_first.made.are_rows.each
      (subst (IsStrictlySortedBy term_cmp) (sym terms-behind) of_second.made.are_rows.terms) rows-behind

  pub both-make : MakeSegment r.segment.schema r.segment.block_len count (columns_of_both r.segment q.segment) (rows_of_both r q)
  both-make = record {
    cut = of_first.made.cut;
    short = of_first.made.short;
    few = few;
    lengths = columns-are r.segment q.segment alike;
    are_rows = record { terms = of_both.ascend; each = of_both.each };
  }

  abbrev made : ℕ → Document
  made = document_from (all_posted (rows_of_both r q)) (columns_of_both r.segment q.segment)

  document-of_first : (d : ℕ) → d < n → get_or (r.segment.documents ++ q.segment.documents) d no_document ≡ made d
  document-of_first d below =
      get_or_append_left r.segment.documents q.segment.documents no_document d below
      ∙ made-document r of_first d below
      ∙ sym (same-document (all_posted (rows_of_both r q)) (all_posted r.rows) (columns_of_both r.segment q.segment) (columns_of r.segment) d d
      (λ t. of_both.low d t below) (ids-of_first r.segment q.segment alike d below))

  document-of_second : (d : ℕ) → n ≤ d → d < count → get_or (r.segment.documents ++ q.segment.documents) d no_document ≡ made d
  document-of_second d past below =
      let place : n + (d - n) ≡ d = omega (arith, past) in
      let found : (t : TermKey) → found_among d t (rows_of_both r q) ≡ found_among (d - n) t q.rows = λ t.
      of_both.high d t past ∙ ap (λ k. found_among k t behind) (sym place) ∙ found_among-behind n (d - n) t q.rows in
      get_or-append_right r.segment.documents q.segment.documents n d no_document refl past
      ∙ made-document q of_second (d - n) (omega (arith, past, below))
      ∙ sym (same-document (all_posted (rows_of_both r q)) (all_posted q.rows) (columns_of_both r.segment q.segment) (columns_of q.segment) d (d - n)
      found (ids-of_second r.segment q.segment alike d past))

  pub documents-of_both : segment_of_rows r.segment.schema r.segment.block_len (rows_of_both r q) (columns_of_both r.segment q.segment) count
      ≡ without [] (joined r.segment q.segment)
  documents-of_both =
      let all = fill_by_all made (r.segment.documents ++ q.segment.documents) count no_document (length-append r.segment.documents q.segment.documents)
      (λ d below. elim (cases_lt d n) [ inl first ↦ document-of_first d first | inr past ↦ document-of_second d past below ]) in
      λ i. record { schema = r.segment.schema; block_len = r.segment.block_len; documents = sym all i; deleted = [] }
