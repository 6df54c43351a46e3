-- How many documents the readers have that are searched: as many as all segments.
use Rattle.std.proofs.Common.{◌≡◌, ℕ, zero, suc, ◌+◌, ◌<◌, ◌≤◌, List, [], ◌∷◌, length, slice_index_or, take, ap, ◌∙◌, arith}
use Rattle.std.proofs.lemmas.List.Sums.{sum_by-append, sum_by-cons}
use Rattle.qm_postings.specs.Reading.{Reader}
use Rattle.qm_postings.specs.Segment.{Segment}
use Rattle.qm_index.specs.Indexed.{AreSearched, Indexed, all_segments}
use Rattle.qm_index.specs.Numbers.{count_of, document_count}
use Rattle.qm_index.specs.Parts.{ArePartsFrom, segments_of}

parts-count : (first : ℕ) (whole : Segment) (parts : List Segment) → ArePartsFrom first whole parts →
    first + count_of parts ≡ length whole.documents
parts-count first whole [] all = omega (arith, all)
parts-count first whole (p ∷ ps) are =
    omega (arith, sum_by-cons (λ (s : Segment). length s.documents) p ps, parts-count (first + length p.documents) whole ps are.1)

readers-count : (readers : List Reader) → document_count readers ≡ count_of (segments_of readers)
readers-count [] = omega arith
readers-count (r ∷ rs) =
    omega (
      arith,
      readers-count rs,
      sum_by-cons (λ (x : Reader). length x.segment.documents) r rs,
      sum_by-cons (λ (s : Segment). length s.documents) r.segment (segments_of rs),
    )

pub searched-count : (s : Indexed) (readers : List Reader) → AreSearched s readers → document_count readers ≡ count_of (all_segments s)
searched-count s readers are =
    let count = λ (x : Segment). length x.documents in
    omega (
      arith,
      readers-count readers,
      ap count_of are.all,
      sum_by-append count s.ended are.parts,
      sum_by-append count s.ended (s.current ∷ []),
      sum_by-cons count s.current [],
      parts-count 0 s.current are.parts are.of_current,
    )

-- the segments before one, and that one, have no more documents than all
pub counted-within : (rs : List Reader) (i : ℕ) (r : Reader) → i < length rs → r ≡ slice_index_or rs i r →
    document_count (take i rs) + length r.segment.documents ≤ document_count rs
counted-within [] i r below is = absurd (omega (arith, below))
counted-within (q ∷ rs) zero r below is =
    omega (arith, ap (λ (x : Reader). length x.segment.documents) is, sum_by-cons (λ (x : Reader). length x.segment.documents) q rs)
counted-within (q ∷ rs) (suc i) r below is =
    let count = λ (x : Reader). length x.segment.documents in
    omega (arith, sum_by-cons count q rs, sum_by-cons count q (take i rs), counted-within rs i r (omega (arith, below)) is)

-- one segment more
counted-suc : (rs : List Reader) (i : ℕ) (r : Reader) → i < length rs → r ≡ slice_index_or rs i r →
    document_count (take (suc i) rs) ≡ document_count (take i rs) + length r.segment.documents
counted-suc [] i r below is = absurd (omega (arith, below))
counted-suc (q ∷ rs) zero r below is =
    omega (arith, ap (λ (x : Reader). length x.segment.documents) is, sum_by-cons (λ (x : Reader). length x.segment.documents) q [])
counted-suc (q ∷ rs) (suc i) r below is =
    let count = λ (x : Reader). length x.segment.documents in
    omega (arith, sum_by-cons count q (take (suc i) rs), sum_by-cons count q (take i rs), counted-suc rs i r (omega (arith, below)) is)

pub counted-next : (rs : List Reader) (i : ℕ) (r : Reader) → i < length rs → r ≡ slice_index_or rs i r →
    document_count (take (i + 1) rs) ≡ document_count (take i rs) + length r.segment.documents
counted-next rs i r below is =
    let same : i + 1 ≡ suc i = omega arith in
    ap (λ n. document_count (take n rs)) same ∙ counted-suc rs i r below is
