-- How many documents segments have.
use Rattle.std.proofs.Common.{◌≡◌, ℕ, ◌+◌, ◌≤◌, List, [], ◌∷◌, ◌++◌, length, ap, sym, refl, ◌∙◌, drop, take, arith, length-append}
use Rattle.std.specs.List.{flat_map}
use Rattle.std.proofs.lemmas.Grind.{flat_map-append}
use Rattle.std.proofs.lemmas.List.{map-append, take-append-drop}
use Rattle.std.proofs.lemmas.List.Sums.{sum_by-cons}
use Rattle.qm_index.specs.Numbers.{document_count as of_readers}
use Rattle.qm_postings.specs.Reading.{Reader}
use Rattle.qm_postings.specs.Segment.{Document, Segment}
use Rattle.qm_index.specs.Parts.{segments_of}
use Rattle.qm_script.specs.Parts.{document_count}

abbrev documents_of : List Segment → List Document
documents_of segments = flat_map (λ s. s.documents) segments

pub count-append : (xs ys : List Segment) → document_count (xs ++ ys) ≡ document_count xs + document_count ys
count-append xs ys = ap length (flat_map-append (λ s. s.documents) xs ys) ∙ length-append (documents_of xs) (documents_of ys)

-- up to one reader, and from it on
pub count-split : (readers : List Reader) (i : ℕ) →
    document_count (segments_of readers) ≡ document_count (segments_of (take i readers)) + document_count (segments_of (drop i readers))
count-split readers i =
    ap (λ rs. document_count (segments_of rs)) (sym (take-append-drop i readers)) ∙ ap document_count
    (map-append (λ r. r.segment) (take i readers) (drop i readers)) ∙ count-append (segments_of (take i readers)) (segments_of (drop i readers))

pub count-taken : (readers : List Reader) (i : ℕ) → document_count (segments_of (take i readers)) ≤ document_count (segments_of readers)
count-taken readers i = let cut = count-split readers i in omega (arith, cut)

-- as an index counts them, by its readers
pub count-readers : (readers : List Reader) → document_count (segments_of readers) ≡ of_readers readers
count-readers [] = refl
count-readers (r ∷ readers) =
    length-append r.segment.documents (documents_of (segments_of readers)) ∙ ap (λ n. length r.segment.documents + n) (count-readers readers)
    ∙ sym (sum_by-cons (λ (x : Reader). length x.segment.documents) r readers)
