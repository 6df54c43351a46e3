-- Some rows of a segment are those of a segment, in which documents hold their terms alone.
use Rattle.std.proofs.Common.{◌≡◌, ℕ, ◌+◌, ◌<◌, Bool, cond, List, [], ◌∷◌, ◌++◌, get_or, length, map, take, ap, subst, ◌∙◌}
use Rattle.std.specs.List.Sorted.{IsStrictlySortedBy}
use Rattle.std.proofs.lemmas.List.{take_more}
use Rattle.std.proofs.lemmas.List.Elements.{All-filter, filter-append}
use Rattle.qm_docset.specs.ListFacts.{filter-map}
use Rattle.qm_postings.specs.Reading.{IsOfRows, Reader}
use Rattle.qm_postings.specs.Restriction.{restricted, rows_wanted}
use Rattle.qm_postings.specs.Rows.{IsRow, MakeSegment, Row, columns_of, segment_of_rows}
use Rattle.qm_postings.specs.Segment.{without}
use Rattle.qm_postings.proofs.Restrictions.{segment-wanted}
use Rattle.qm_schema.specs.Term.{TermKey, term_cmp}
use Rattle.std.proofs.lemmas.List.Kept.{IsStrictlySortedBy-filter}

module _ (wanted : TermKey → Bool) where
  pub wanted-more : (rows : List Row) (i : ℕ) (d : Row) (b : Bool) → i < length rows → wanted (get_or rows i d).term ≡ b →
      rows_wanted wanted (take (i + 1) rows) ≡ rows_wanted wanted (take i rows) ++ cond b (get_or rows i d ∷ []) []
  wanted-more rows i d b within is =
      ap (rows_wanted wanted) (take_more rows i d within)
      ∙ filter-append (λ (r : Row). wanted r.term) (take i rows) (get_or rows i d ∷ [])
      ∙ ap (λ c. rows_wanted wanted (take i rows) ++ cond c (get_or rows i d ∷ []) []) is

  module _ (r : Reader) (whole : IsOfRows r) where
    pub make-wanted : MakeSegment r.segment.schema r.segment.block_len (length r.segment.documents) (columns_of r.segment) (rows_wanted wanted r.rows)
    make-wanted = record {
      cut = whole.made.cut;
      short = whole.made.short;
      few = whole.made.few;
      lengths = whole.made.lengths;
      are_rows = record {
        terms = subst (IsStrictlySortedBy term_cmp) (filter-map wanted (λ (r : Row). r.term) r.rows)
            (IsStrictlySortedBy-filter term_cmp wanted (map (λ (r : Row). r.term) r.rows) whole.made.are_rows.terms);
        each = All-filter (λ (r : Row). wanted r.term) (IsRow r.segment.schema (length r.segment.documents)) r.rows whole.made.are_rows.each;
      };
    }

    pub segment-of_wanted : segment_of_rows r.segment.schema r.segment.block_len (rows_wanted wanted r.rows) (columns_of r.segment) (length r.segment.documents)
        ≡ restricted wanted (without [] r.segment)
    segment-of_wanted =
        segment-wanted wanted r.segment.schema r.segment.block_len r.rows (columns_of r.segment) (length r.segment.documents)
        ∙ ap (λ (q : Reader). restricted wanted q.segment) whole.same
