-- How many documents hold a term: as many in a segment as in its parts.
use Rattle.std.proofs.Common.{◌≡◌, ◌+◌, ◌<◌, ◌≤◌, ℕ, List, [], ◌∷◌, Bool, length, map, drop, take, filter, is_some, get_or, ap, sym, ◌∙◌, arith, length-append}
use Rattle.std.proofs.lemmas.List.{drop-drop, get_or_default, same_lists, take-append-drop}
use Rattle.std.proofs.lemmas.List.Elements.{filter-append}
use Rattle.std.proofs.lemmas.List.FromFn.{get_or-map-range_with_len, length-map-range_with_len, length-range_with_len}
use Rattle.std.proofs.lemmas.List.{length-map}
use Rattle.std.proofs.lemmas.List.Sums.{count_by-le-length, length-filter, sum_by-cons, sum_by-append}
use Rattle.std.specs.FinMap.{get}
use Rattle.std.specs.List.{range_with_len}
use Rattle.qm_docset.specs.ListFacts.{filter-map}
use Rattle.qm_index.specs.Indexed.{AreSearched, Indexed, all_segments}
use Rattle.qm_index.specs.Parts.{ArePartsFrom, segments_of}
use Rattle.qm_postings.specs.Reading.{Reader}
use Rattle.qm_postings.specs.Segment.{Document, Segment, holds, no_document}
use Rattle.qm_schema.specs.Term.{TermKey}
use Rattle.birchagain.specs.Holding.{holder_count, holders_in}
use Rattle.birchagain.proofs.LeftWords.{left-none}

module _ (term : TermKey) where
  -- no more than there are
  pub holders-few : (s : Segment) → holders_in term s ≤ length s.documents
  holders-few s =
      let numbers = range_with_len 0 (length s.documents) in
      omega (arith, length-filter (holds s term) numbers, count_by-le-length (holds s term) numbers, length-range_with_len 0 (length s.documents))

  -- whether a document holds it
  abbrev has : Document → Bool
  has d = is_some (get d.terms term)

  numbered : (documents : List Document) → map (λ d. get_or documents d no_document) (range_with_len 0 (length documents)) ≡ documents
  numbered documents =
      let n = length documents in
      let same : length (map (λ d. get_or documents d no_document) (range_with_len 0 n)) ≡ n = length-map-range_with_len (λ d. get_or documents d no_document) 0 n in
      same_lists _ documents same (λ k d below. let within : k < n = omega (arith, below, same) in let at : 0 + k ≡ k = omega arith in
      get_or-map-range_with_len (λ x. get_or documents x no_document) 0 n k k d within at ∙ get_or_default documents k no_document d within)

  -- so they can be counted without numbers
  held-documents : (s : Segment) → holders_in term s ≡ length (filter has s.documents)
  held-documents s =
      let numbers = range_with_len 0 (length s.documents) in
      sym (length-map (filter (holds s term) numbers) (λ d. get_or s.documents d no_document))
      ∙ ap length (sym (filter-map has (λ d. get_or s.documents d no_document) numbers)) ∙ ap (λ ds. length (filter has ds)) (numbered s.documents)

  -- those of the parts from one on
  held-from : (first : ℕ) (whole : Segment) (parts : List Segment) → ArePartsFrom first whole parts →
      holder_count term parts ≡ length (filter has (drop first whole.documents))
  held-from first whole [] are = ap (λ ds. length (filter has ds)) (sym (left-none whole.documents first (omega (arith, are))))
  held-from first whole (p ∷ ps) are =
      let n = length p.documents in
      let left = drop first whole.documents in
      let here = held-documents p ∙ ap (λ (s : Segment). length (filter has s.documents)) are.0 in
      let rest = held-from (first + n) whole ps are.1 ∙ ap (λ ds. length (filter has ds)) (sym (drop-drop n first whole.documents)) in
      let both = ap (λ ds. length (filter has ds)) (sym (take-append-drop n left)) ∙ ap length (filter-append has (take n left) (drop n left))
      ∙ length-append (filter has (take n left)) (filter has (drop n left)) in
      omega (arith, sum_by-cons (holders_in term) p ps, here, rest, both)

  -- those that are searched are those of all segments
  pub held-searched : (s : Indexed) (readers : List Reader) → AreSearched s readers →
      holder_count term (segments_of readers) ≡ holder_count term (all_segments s)
  held-searched s readers are =
      let parts = held-from 0 s.current are.parts are.of_current ∙ sym (held-documents s.current) in
      omega (
        arith,
        ap (holder_count term) are.all,
        sum_by-append (holders_in term) s.ended are.parts,
        sum_by-append (holders_in term) s.ended (s.current ∷ []),
        parts,
        sum_by-cons (holders_in term) s.current [],
      )
