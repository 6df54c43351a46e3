-- What a query's tree lists over the segments of a script, of which the open one may be in parts.
use Rattle.std.proofs.Common.{◌≡◌, ℕ, ℤ, ◌+◌, ◌<◌, Bool, true, false, List, [], ◌∷◌, ◌++◌, Option, Some, length, map, pos, get_or, refl, ap, sym, ◌∙◌, arith}
use Rattle.std.proofs.Common.{append_assoc, length-append, add-one, suc, drop}
use Rattle.std.specs.List.{flat_map}
use Rattle.std.proofs.Math.Seq.{drop-cons}
use Rattle.qm_postings.specs.Segment.{Segment}
use Rattle.qm_postings.specs.Reading.{Reader}
use Rattle.qm_script.specs.AllSegments.{all_listed, listed, listed_from, wanted_score}
use Rattle.qm_index.specs.Indexed.{AreMerged, AreSearched, all_segments}
use Rattle.qm_index.specs.Parts.{AreParts, segments_of}
use Rattle.qm_script.specs.Parts.{document_count}
use Rattle.qm_script.specs.PrefixFree.{PrefixTest, all_prefixes}
use Rattle.qm_script.specs.Reached.{is_reached}
use Rattle.qm_script.specs.ScriptSegments.{Script}
use Rattle.qm_weight.specs.Tree.{Tree}
use Rattle.qm_script.proofs.PartListings.{IsByDocument, IsByDocuments, items-few_parts, items-few_segments, items-parts, items-segments, items_from}
use Rattle.qm_weight.specs.LookingFacts.{score-documents}
use Rattle.qm_script.proofs.TreeParts.{score-same}

module _ (tree : Tree) where
  -- a document's number over all segments, and its score
  abbrev pub numbered_item : Bool → ℕ → Segment → ℕ → ℕ × Option ℤ
  numbered_item scored n s d = (n, wanted_score scored tree s d)

  pub listed-items : (scored : Bool) (first : ℕ) (segments : List Segment) →
      listed_from scored tree first segments ≡ items_from tree (numbered_item scored) first segments
  listed-items scored first [] = refl
  listed-items scored first (s ∷ segments) = ap (λ l. listed scored tree first s ++ l) (listed-items scored (first + length s.documents) segments)

  by-document : (test : PrefixTest) (scored : Bool) → all_prefixes test tree ≡ true → IsByDocument test (numbered_item scored)
  by-document test false pass n s t d e reach reach_too schema document alive = refl
  by-document test true pass n s t d e reach reach_too schema document alive =
      ap (λ k. (n, Some (pos k))) (score-same test tree pass s t reach reach_too d e schema document 1)

  by-documents : (scored : Bool) → IsByDocuments (numbered_item scored)
  by-documents false n s t d schema documents alive = refl
  by-documents true n s t d schema documents alive = ap (λ k. (n, Some (pos k))) (score-documents s t schema documents tree 1 d)

  -- the parts of a segment, for a tree whose prefixes are expanded to all of their terms
  pub listed-parts : (scored : Bool) (whole : Segment) (parts : List Segment) → all_prefixes (is_reached parts) tree ≡ true →
      AreParts whole parts → (first : ℕ) → listed_from scored tree first parts ≡ listed scored tree first whole
  listed-parts scored whole parts pass are first =
      listed-items scored first parts
      ∙ items-parts tree (numbered_item scored) whole first parts pass (by-document (is_reached parts) scored pass) are

  -- for any tree, where there is one part at most
  pub listed-few_parts : (scored : Bool) (whole : Segment) (parts : List Segment) → length parts < 2 →
      AreParts whole parts → (first : ℕ) → listed_from scored tree first parts ≡ listed scored tree first whole
  listed-few_parts scored whole parts few are first =
      listed-items scored first parts ∙ items-few_parts tree (numbered_item scored) (by-documents scored) first whole parts few are

  -- a tree whose prefixes are expanded to all terms of the parts
  pub listed-segments : (scored : Bool) (script : Script) (readers : List Reader) (are : AreSearched script readers) →
      all_prefixes (is_reached are.parts) tree ≡ true → all_listed scored tree (segments_of readers) ≡ all_listed scored tree (all_segments script)
  listed-segments scored script readers are pass =
      listed-items scored 0 (segments_of readers)
      ∙ items-segments tree (numbered_item scored) script readers are pass (by-document (is_reached are.parts) scored pass)
      ∙ sym (listed-items scored 0 (all_segments script))

  -- any tree, where the open segment is in one part at most
  pub listed-one_part : (scored : Bool) (script : Script) (readers : List Reader) →
      AreMerged script readers → all_listed scored tree (segments_of readers) ≡ all_listed scored tree (all_segments script)
  listed-one_part scored script readers are =
      listed-items scored 0 (segments_of readers)
      ∙ items-few_segments tree (numbered_item scored) script readers (by-documents scored) are.searched are.one
      ∙ sym (listed-items scored 0 (all_segments script))

-- A loop over segments: one more is listed.

module _ (scored : Bool) (tree : Tree) (readers : List Reader) (i : ℕ)
    (item : Reader) (within : i < length readers) (is : item ≡ get_or readers i item) where
  pub row-next : drop i readers ≡ item ∷ drop (i + 1) readers
  row-next = drop-cons readers i item within ∙ ap (λ r. r ∷ drop (suc i) readers) (sym is) ∙ ap (λ k. item ∷ drop k readers) (sym (add-one i))

  pub count-on : (first n all : ℕ) → n ≡ length item.segment.documents → first + document_count (map (λ r. r.segment) (drop i readers)) ≡ all →
      first + n + document_count (map (λ r. r.segment) (drop (i + 1) readers)) ≡ all
  count-on first n all number room =
      let here = ap (λ rs. document_count (map (λ r. r.segment) rs)) row-next
      ∙ length-append item.segment.documents (flat_map (λ (s : Segment). s.documents) (map (λ r. r.segment) (drop (i + 1) readers))) in
      omega arith

  pub count-next : (first n : ℕ) → n ≡ length item.segment.documents → first + document_count (map (λ r. r.segment) (drop i readers)) ≡ document_count
      (map (λ r. r.segment) readers) → first + n + document_count (map (λ r. r.segment) (drop (i + 1) readers)) ≡ document_count (map (λ r. r.segment) readers)
  count-next first n number room = count-on first n (document_count (map (λ r. r.segment) readers)) number room

  pub listed-next : (items all : List (ℕ × Option ℤ)) (first n : ℕ) → n ≡ length item.segment.documents →
      items ++ listed_from scored tree first (map (λ r. r.segment) (drop i readers)) ≡ all →
      (items ++ listed scored tree first item.segment) ++ listed_from scored tree (first + n) (map (λ r. r.segment) (drop (i + 1) readers)) ≡ all
  listed-next items all first n number so_far =
      append_assoc items (listed scored tree first item.segment) (listed_from scored tree (first + n) (map (λ r. r.segment) (drop (i + 1) readers)))
      ∙ ap (λ k. items ++ (listed scored tree first item.segment ++ listed_from scored tree (first + k) (map (λ r. r.segment) (drop (i + 1) readers)))) number
      ∙ ap (λ rs. items ++ listed_from scored tree first (map (λ r. r.segment) rs)) (sym row-next)
      ∙ so_far
