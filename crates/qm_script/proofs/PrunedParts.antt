-- A pruned run whose calls answer their scores, and several of them over the segments of a script, of which
-- the open one may be in parts.
use Rattle.std.proofs.Common.{◌≡◌, ℕ, ℤ, ◌+◌, ◌-◌, ◌<ℤ◌, ◌≤ℤ◌, Bool, true, false, if◌then◌else◌, int_lt, List, [], ◌∷◌, ◌++◌, Option, None, Some, length, map}
use Rattle.std.proofs.Common.{take, drop, get_or, pos, refl, ap, sym, ◌∙◌, arith, append-nil, append_assoc, length-append, add-zero, zero-add}
use Rattle.std.proofs.Common.{◌<◌}
use Rattle.std.specs.List.{flat_map}
use Rattle.std.proofs.Math.Seq.{drop-append_seam, take-append_seam, take-length}
use Rattle.std.proofs.lemmas.Int.{ints}
use Rattle.std.proofs.lemmas.List.{length-drop}
use Rattle.qm_docset.specs.Gather.{scored}
use Rattle.qm_postings.specs.Segment.{Segment}
use Rattle.qm_index.specs.Indexed.{AreSearched, all_segments}
use Rattle.qm_index.specs.Parts.{segments_of}
use Rattle.qm_postings.specs.Reading.{Reader}
use Rattle.qm_script.specs.AllSegments.{listed, listed_from}
use Rattle.qm_script.specs.Parts.{document_count}
use Rattle.qm_script.specs.Pruned.{all_pruned, entry_item, parts_pruned, pruned_from, rising, threshold_after}
use Rattle.qm_script.specs.ScriptSegments.{Script}
use Rattle.qm_script.specs.Text.{numbered}
use Rattle.qm_weight.specs.Tree.{Tree, list, matching, score}
use Rattle.qm_script.proofs.OverParts.{row-next}
use Rattle.qm_script.proofs.Ranges.{map-map}

-- ---- one turn of a run

above : (threshold score : ℤ) → threshold <ℤ score → int_lt threshold score ≡ true
above threshold score less = grind (arith, ints)

not_above : (threshold score : ℤ) → score ≤ℤ threshold → int_lt threshold score ≡ false
not_above threshold score low = grind (arith, ints)

-- what was called for so far has one item more, and what is to come is above its score
pub rising-called : (threshold score : ℤ) (d : ℕ) (found left : List (ℕ × Option ℤ)) → threshold <ℤ score →
    (found ++ (d, Some score) ∷ []) ++ rising score left ≡ found ++ rising threshold ((d, Some score) ∷ left)
rising-called threshold score d found left less =
    append_assoc found ((d, Some score) ∷ []) (rising score left)
    ∙ ap (λ b. found ++ (if b then (d, Some score) ∷ rising score left else rising threshold left)) (sym (above threshold score less))

-- it is passed over
pub rising-passed : (threshold score : ℤ) (d : ℕ) (left : List (ℕ × Option ℤ)) →
    score ≤ℤ threshold → rising threshold left ≡ rising threshold ((d, Some score) ∷ left)
rising-passed threshold score d left low =
    ap (λ b. if b then (d, Some score) ∷ rising score left else rising threshold left) (sym (not_above threshold score low))

-- ---- numbers over all segments

pub entries-listed : (tree : Tree) (first : ℕ) (s : Segment) → numbered first (map entry_item (list tree 1 s)) ≡ listed true tree first s
entries-listed tree first s =
    ap (numbered first) (map-map entry_item (λ d. scored d (score tree 1 s d)) (matching tree s))
    ∙ map-map (λ (i : ℕ × Option ℤ). (first + i.0, i.1)) (λ d. let i : ℕ × Option ℤ = (d, Some (pos (score tree 1 s d))) in i) (matching tree s)

-- ---- a loop over segments: one more

module _ (threshold : ℤ) (tree : Tree) (readers : List Reader) (i : ℕ)
    (item : Reader) (within : i < length readers) (is : item ≡ get_or readers i item) where
  pub pruned-next : (items all : List (ℕ × Option ℤ)) (first n : ℕ) → n ≡ length item.segment.documents → items ++ pruned_from threshold tree first
      (map (λ r. r.segment) (drop i readers)) ≡ all → (items ++ rising threshold (listed true tree first item.segment))
      ++ pruned_from threshold tree (first + n) (map (λ r. r.segment) (drop (i + 1) readers)) ≡ all
  pruned-next items all first n number so_far =
      let here = rising threshold (listed true tree first item.segment) in
      append_assoc items here (pruned_from threshold tree (first + n) (map (λ r. r.segment) (drop (i + 1) readers)))
      ∙ ap (λ k. items ++ (here ++ pruned_from threshold tree (first + k) (map (λ r. r.segment) (drop (i + 1) readers)))) number
      ∙ ap (λ rs. items ++ pruned_from threshold tree first (map (λ r. r.segment) rs)) (sym (row-next true tree readers i item within is))
      ∙ so_far

  pub part-next : (found all : List (ℕ × Option ℤ)) (first n : ℕ) → n ≡ length item.segment.documents → found ++ parts_pruned threshold tree first
      (map (λ r. r.segment) (drop i readers)) ≡ all → (found ++ rising threshold (listed true tree first item.segment)) ++ parts_pruned
      (threshold_after threshold (rising threshold (listed true tree first item.segment))) tree (first + n) (map (λ r. r.segment) (drop (i + 1) readers)) ≡ all
  part-next found all first n number so_far =
      let here = rising threshold (listed true tree first item.segment) in
      let left = threshold_after threshold here in
      append_assoc found here (parts_pruned left tree (first + n) (map (λ r. r.segment) (drop (i + 1) readers)))
      ∙ ap (λ k. found ++ (here ++ parts_pruned left tree (first + k) (map (λ r. r.segment) (drop (i + 1) readers)))) number
      ∙ ap (λ rs. found ++ parts_pruned threshold tree first (map (λ r. r.segment) rs)) (sym (row-next true tree readers i item within is))
      ∙ so_far

-- ---- the threshold behind a run

-- the score of the last item
pub after-called : (threshold score : ℤ) (n : ℕ) (items : List (ℕ × Option ℤ)) → threshold_after threshold (items ++ (n, Some score) ∷ []) ≡ score
after-called threshold score n [] = refl
after-called threshold score n ((m, None) ∷ items) = after-called threshold score n items
after-called threshold score n ((m, Some s) ∷ items) = after-called s score n items

-- ---- the open segment in parts

-- a run goes on behind some items at the threshold that they leave
abbrev GoesOn : List (ℕ × Option ℤ) → ℤ → List (ℕ × Option ℤ) → Type 0
GoesOn more threshold items = rising threshold (items ++ more) ≡ rising threshold items ++ rising (threshold_after threshold (rising threshold items)) more

rising-turn : (more items : List (ℕ × Option ℤ)) (threshold score : ℤ) (n : ℕ) (b : Bool) → GoesOn more score items → GoesOn more threshold items →
    (if b then (n, Some score) ∷ rising score (items ++ more) else rising threshold (items ++ more)) ≡ (if b then (n, Some score) ∷ rising score items
    else rising threshold items) ++ rising (threshold_after threshold (if b then (n, Some score) ∷ rising score items else rising threshold items)) more
rising-turn more items threshold score n true called passed = ap (λ l. (n, Some score) ∷ l) called
rising-turn more items threshold score n false called passed = passed

rising-append : (more : List (ℕ × Option ℤ)) (threshold : ℤ) (items : List (ℕ × Option ℤ)) → GoesOn more threshold items
rising-append more threshold [] = refl
rising-append more threshold ((n, None) ∷ items) = rising-append more threshold items
rising-append more threshold ((n, Some score) ∷ items) =
    rising-turn more items threshold score n (int_lt threshold score) (rising-append more score items) (rising-append more threshold items)

module _ (tree : Tree) where
  parts-rising : (threshold : ℤ) (first : ℕ) (parts : List Segment) →
      parts_pruned threshold tree first parts ≡ rising threshold (listed_from true tree first parts)
  parts-rising threshold first [] = refl
  parts-rising threshold first (p ∷ parts) =
      let here = listed true tree first p in
      let more = listed_from true tree (first + length p.documents) parts in
      ap (λ l. rising threshold here ++ l) (parts-rising (threshold_after threshold (rising threshold here)) (first + length p.documents) parts)
      ∙ sym (rising-append more threshold here)

  module _ (threshold : ℤ) where
    pruned-behind : (first : ℕ) (ended : List Segment) (current : Segment) → pruned_from threshold tree first (ended ++ current ∷ [])
        ≡ pruned_from threshold tree first ended ++ rising threshold (listed true tree (first + document_count ended) current)
    pruned-behind first [] current = append-nil (rising threshold (listed true tree first current))
        ∙ ap (λ n. rising threshold (listed true tree n current)) (sym (add-zero first))
    pruned-behind first (s ∷ ended) current =
        let here = rising threshold (listed true tree first s) in
        let count : document_count (s ∷ ended) ≡ length s.documents + document_count ended =
        length-append s.documents (flat_map (λ (t : Segment). t.documents) ended) in
        let number : first + length s.documents + document_count ended ≡ first + document_count (s ∷ ended) = omega arith in
        ap (λ l. here ++ l) (pruned-behind (first + length s.documents) ended current)
        ∙ sym (append_assoc here (pruned_from threshold tree (first + length s.documents) ended)
        (rising threshold (listed true tree (first + length s.documents + document_count ended) current)))
        ∙ ap (λ n. (here ++ pruned_from threshold tree (first + length s.documents) ended) ++ rising threshold (listed true tree n current)) number

    -- the parts list what the open segment does
    module _ (script : Script) (readers : List Reader) (are : AreSearched script readers)
        (same : (first : ℕ) → listed_from true tree first are.parts ≡ listed true tree first script.current) where
      pub pruned-segments : (ended : ℕ) → ended ≡ length script.ended → all_pruned threshold tree (take ended (segments_of readers)) ++ parts_pruned threshold
          tree (document_count (take ended (segments_of readers))) (drop ended (segments_of readers)) ≡ all_pruned threshold tree (all_segments script)
      pruned-segments ended number =
          let segments = segments_of readers in
          let cut : take ended segments ≡ script.ended = (λ i. take (number i) (are.all i)) ∙ take-append_seam script.ended are.parts in
          let rest : drop ended segments ≡ are.parts = (λ i. drop (number i) (are.all i)) ∙ drop-append_seam script.ended are.parts in
          let count = document_count script.ended in
          (λ i. all_pruned threshold tree (cut i) ++ parts_pruned threshold tree (document_count (cut i)) (rest i))
          ∙ ap (λ l. all_pruned threshold tree script.ended ++ l) (parts-rising threshold count are.parts ∙ ap (rising threshold) (same count))
          ∙ ap (λ n. pruned_from threshold tree 0 script.ended ++ rising threshold (listed true tree n script.current)) (sym (zero-add count))
          ∙ sym (pruned-behind 0 script.ended script.current)

-- the parts as a slice of all readers
pub rest-taken : {X : Type 0} (n : ℕ) (xs : List X) → take (length xs - n) (drop n xs) ≡ drop n xs
rest-taken n xs = ap (λ k. take k (drop n xs)) (sym (length-drop n xs)) ∙ take-length (drop n xs)
