-- How many documents are in the open segment.
use Rattle.std.proofs.Common.{◌≡◌, ◌<◌, ◌+◌, ℕ, List, [], ◌∷◌, drop, get_or, length, refl, ap, sym, ◌∙◌, arith}
use Rattle.std.proofs.lemmas.List.{drop_more}
use Rattle.std.proofs.lemmas.List.Sums.{sum_by-append, sum_by-cons}
use Rattle.qm_index.specs.Indexed.{Indexed, all_segments}
use Rattle.qm_index.specs.Numbers.{count_of, document_count}
use Rattle.qm_index.specs.Parts.{segments_of}
use Rattle.qm_postings.specs.Reading.{Reader}
use Rattle.qm_postings.specs.Segment.{Segment}

abbrev in_segment : Segment → ℕ
in_segment s = length s.documents

abbrev in_reader : Reader → ℕ
in_reader r = length r.segment.documents

read-counted : (readers : List Reader) → count_of (segments_of readers) ≡ document_count readers
read-counted [] = refl
read-counted (r ∷ rs) = sum_by-cons in_segment r.segment (segments_of rs) ∙ ap (λ (n : ℕ). in_reader r + n) (read-counted rs) ∙ sym (sum_by-cons in_reader r rs)

-- all documents are those of the ended segments and of the open one
pub all-counted : (s : Indexed) (readers : List Reader) → segments_of readers ≡ s.ended → count_of (all_segments s) ≡ document_count readers + length s.current.documents
all-counted s readers is =
    omega (
      arith,
      sum_by-append in_segment s.ended (s.current ∷ []),
      sum_by-cons in_segment s.current [],
      ap count_of is,
      read-counted readers,
    )

-- those from one segment on are its own, and those behind it
pub left-counted : (readers : List Reader) (i : ℕ) (r d : Reader) → i < length readers → r ≡ get_or readers i d →
    document_count (drop i readers) ≡ in_reader r + document_count (drop (i + 1) readers)
left-counted readers i r d below is =
    ap document_count (drop_more readers i d below) ∙ sum_by-cons in_reader (get_or readers i d) (drop (i + 1) readers)
    ∙ ap (λ (x : Reader). in_reader x + document_count (drop (i + 1) readers)) (sym is)
