-- The best documents of several segments, by their addresses and by their numbers, and over a script's segments, of
-- which the open one may be in parts.
use Rattle.std.proofs.Common.{◌≡◌, ℕ, suc, ℤ, ◌+◌, ◌-◌, ◌<◌, Bool, true, false, cond, if◌then◌else◌, List, [], ◌∷◌, ◌++◌, All, length, map, filter, pos, take}
use Rattle.std.proofs.Common.{refl, ap, sym, ◌∙◌, arith, append_assoc, length-append, get_or}
use Rattle.std.specs.Int.Signed.{lt_z}
use Rattle.std.specs.List.{fold}
use Rattle.std.proofs.lemmas.List.{get_or-append_right, map-append, take-map}
use Rattle.std.proofs.lemmas.List.Elements.{All-append, All-head, All-map, All-nil, All-tail, All-take, All-weaker, filter-append}
use Rattle.qm_index.specs.Indexed.{AreMerged, AreSearched, all_segments}
use Rattle.qm_index.specs.Parts.{segments_of}
use Rattle.qm_postings.specs.Reading.{Reader}
use Rattle.qm_postings.specs.Segment.{Segment, is_alive}
use Rattle.qm_postings.specs.declared.address.DocAddress.{DocAddress}
use Rattle.qm_query.specs.TopDocs.{addressed, alive_matches, alive_matches_from, score_first}
use Rattle.qm_query.specs.TopDocsFacts.{All-placed}
use Rattle.qm_script.specs.BestListed.{alive_listed, alive_listed_from, best_listed, firsts_from, found_item, number_at, scored_item}
use Rattle.qm_script.specs.PrefixFree.{all_prefixes}
use Rattle.qm_script.specs.Reached.{is_reached}
use Rattle.qm_script.specs.ScriptSegments.{Script}
use Rattle.qm_weight.specs.Best.{best, by_score, placed}
use Rattle.qm_weight.specs.Counts.{alive_matching}
use Rattle.qm_weight.specs.Tree.{Tree, matching, score}
use Rattle.qm_script.proofs.PartListings.{items, items-few_segments, items-segments, items_from}
use Rattle.qm_script.proofs.Ranges.{map-map}
use Rattle.qm_weight.specs.LookingFacts.{score-documents}
use Rattle.qm_script.proofs.TreeParts.{score-same}

-- ---- other names for what is ranked

module _ {X Y : Type 0} (f : X → Y) where
  abbrev renamed : X × ℤ → Y × ℤ
  renamed p = (f p.0, p.1)

  placed-renamed : (p : X × ℤ) (xs : List (X × ℤ)) → map renamed (placed p xs) ≡ placed (renamed p) (map renamed xs)
  placed-renamed p [] = refl
  placed-renamed p (x ∷ xs) =
      elim (lt_z x.1 p.1) as (λ b. map renamed (if b then p ∷ x ∷ xs else x ∷ placed p xs)
      ≡ (if b then renamed p ∷ renamed x ∷ map renamed xs else renamed x ∷ placed (renamed p) (map renamed xs))) [
        | true ↦ refl
        | false ↦ ap (λ l. renamed x ∷ l) (placed-renamed p xs)
      ]

  ranked-renamed : (ranked xs : List (X × ℤ)) →
      map renamed (fold (λ r p. placed p r) ranked xs) ≡ fold (λ r p. placed p r) (map renamed ranked) (map renamed xs)
  ranked-renamed ranked [] = refl
  ranked-renamed ranked (x ∷ xs) =
      ranked-renamed (placed x ranked) xs ∙ ap (λ l. fold (λ r p. placed p r) l (map renamed xs)) (placed-renamed x ranked)

  pub best-renamed : (k : ℕ) (xs : List (X × ℤ)) → map renamed (best k xs) ≡ best k (map renamed xs)
  best-renamed k xs = sym (take-map renamed k (by_score xs)) ∙ ap (take k) (ranked-renamed [] xs)

-- what holds of all holds of the best
All-ranked : (P : DocAddress × ℤ → Type 0) (ranked xs : List (DocAddress × ℤ)) → All P ranked → All P xs → All P (fold (λ r p. placed p r) ranked xs)
All-ranked P ranked [] before all = before
All-ranked P ranked (x ∷ xs) before all = All-ranked P (placed x ranked) xs (All-placed P x ranked (All-head P x xs all) before) (All-tail P x xs all)

pub All-best : (P : DocAddress × ℤ → Type 0) (k : ℕ) (xs : List (DocAddress × ℤ)) → All P xs → All P (best k xs)
All-best P k xs all = All-take P k (by_score xs) (All-ranked P [] xs (All-nil P) all)

-- ---- numbers over all segments

module _ (tree : Tree) where
  -- the address of each is that of one of the segments
  pub matches-there : (ord : ℕ) (readers : List Reader) → All (λ d. d.0.segment_ord < ord + length readers) (alive_matches_from ord tree readers)
  matches-there ord [] = All-nil (λ d. d.0.segment_ord < ord + 0)
  matches-there ord (r ∷ readers) =
      let IsThere : DocAddress × ℤ → Type 0 = λ d. d.0.segment_ord < ord + length (r ∷ readers) in
      All-append IsThere (alive_matches ord tree r.segment) (alive_matches_from (suc ord) tree readers)
      (All-map IsThere (addressed ord tree r.segment) (alive_matching tree r.segment) (λ k x below. omega arith))
      (All-weaker (λ d. d.0.segment_ord < suc ord + length readers) IsThere (λ d below. omega (arith, below))
      (alive_matches_from (suc ord) tree readers) (matches-there (suc ord) readers))

  numbered-from : (before : List ℕ) (ord first : ℕ) (readers : List Reader) → ord ≡ length before →
      map (renamed (number_at (before ++ firsts_from first (segments_of readers)))) (alive_matches_from ord tree readers)
      ≡ alive_listed_from tree first (segments_of readers)
  numbered-from before ord first [] at = refl
  numbered-from before ord first (r ∷ readers) at =
      let s = r.segment in
      let next = first + length s.documents in
      let behind = firsts_from next (segments_of readers) in
      let firsts = before ++ first ∷ behind in
      let number = renamed (number_at firsts) in
      let zero : ord - length before ≡ 0 = omega (arith, at) in
      let here : get_or firsts ord 0 ≡ first =
      get_or-append_right before (first ∷ behind) (length before) ord 0 refl (omega (arith, at)) ∙ ap (λ k. get_or (first ∷ behind) k 0) zero in
      let rest = numbered-from (before ++ first ∷ []) (suc ord) next readers (omega (arith, at, length-append before (first ∷ []))) in
      map-append number (alive_matches ord tree s) (alive_matches_from (suc ord) tree readers)
      ∙ ap (λ l. l ++ map number (alive_matches_from (suc ord) tree readers)) (map-map number (addressed ord tree s) (alive_matching tree s)
      ∙ (λ i. map (λ d. (here i + d, pos (score tree 1 s d))) (alive_matching tree s)))
      ∙ ap (λ l. alive_listed tree first s ++ l)
      (ap (λ l. map (renamed (number_at l)) (alive_matches_from (suc ord) tree readers)) (sym (append_assoc before (first ∷ []) behind)) ∙ rest)

  pub matches-numbered : (readers : List Reader) → map (renamed (number_at (firsts_from 0 (segments_of readers)))) (alive_matches_from 0 tree readers)
      ≡ alive_listed_from tree 0 (segments_of readers)
  matches-numbered readers = numbered-from [] 0 0 readers refl

  -- what a search finds, as it is listed
  pub found-listed : (k : ℕ) (readers : List Reader) → map (found_item (firsts_from 0 (segments_of readers)))
      (map score_first (best k (alive_matches_from 0 tree readers))) ≡ best_listed k tree (segments_of readers)
  found-listed k readers =
      let number = number_at (firsts_from 0 (segments_of readers)) in
      let best_found = best k (alive_matches_from 0 tree readers) in
      map-map (found_item (firsts_from 0 (segments_of readers))) score_first best_found
      ∙ sym (map-map scored_item (renamed number) best_found)
      ∙ ap (map scored_item) (best-renamed number k (alive_matches_from 0 tree readers) ∙ ap (best k) (matches-numbered readers))

  length-firsts : (first : ℕ) (readers : List Reader) → length (firsts_from first (segments_of readers)) ≡ length readers
  length-firsts first [] = refl
  length-firsts first (r ∷ readers) = ap suc (length-firsts (first + length r.segment.documents) readers)

  -- the segment of each that a search finds has a first number
  pub best-there : (k : ℕ) (readers : List Reader) → All (λ f. f.1.segment_ord < length (firsts_from 0 (segments_of readers)))
      (map score_first (best k (alive_matches_from 0 tree readers)))
  best-there k readers =
      let numbers = length-firsts 0 readers in
      let found = alive_matches_from 0 tree readers in
      All-map (λ f. f.1.segment_ord < length (firsts_from 0 (segments_of readers))) score_first (best k found)
      (All-best (λ d. d.0.segment_ord < length (firsts_from 0 (segments_of readers))) k found
      (All-weaker (λ d. d.0.segment_ord < 0 + length readers) (λ d. d.0.segment_ord < length (firsts_from 0 (segments_of readers)))
      (λ d below. omega (arith, below, numbers)) found (matches-there 0 readers)))

-- ---- over the parts of the open segment

-- whether a document is alive, its number and its score
abbrev pub scored_flag : Tree → ℕ → Segment → ℕ → Bool × (ℕ × ℤ)
scored_flag tree n s d = (is_alive s d, (n, pos (score tree 1 s d)))

abbrev flagged : List (Bool × (ℕ × ℤ)) → List (Bool × (ℕ × ℤ))
flagged xs = filter (λ x. x.0) xs

abbrev found : List (Bool × (ℕ × ℤ)) → List (ℕ × ℤ)
found xs = map (λ x. x.1) xs

abbrev pub picked : List (Bool × (ℕ × ℤ)) → List (ℕ × ℤ)
picked xs = found (flagged xs)

picked-map : (p : ℕ → Bool) (f : ℕ → ℕ × ℤ) (ds : List ℕ) → map f (filter p ds) ≡ picked (map (λ d. (p d, f d)) ds)
picked-map p f [] = refl
picked-map p f (d ∷ ds) =
    elim (p d) as (λ b. map f (cond b (d ∷ filter p ds) (filter p ds))
    ≡ found (cond b ((b, f d) ∷ flagged (map (λ e. (p e, f e)) ds)) (flagged (map (λ e. (p e, f e)) ds)))) [
      | true ↦ ap (λ l. f d ∷ l) (picked-map p f ds)
      | false ↦ picked-map p f ds
    ]

picked-append : (xs ys : List (Bool × (ℕ × ℤ))) → picked (xs ++ ys) ≡ picked xs ++ picked ys
picked-append xs ys = ap found (filter-append (λ x. x.0) xs ys) ∙ map-append (λ x. x.1) (flagged xs) (flagged ys)

module _ (tree : Tree) where
  pub listed-picked : (first : ℕ) (segments : List Segment) → alive_listed_from tree first segments ≡ picked (items_from tree (scored_flag tree) first segments)
  listed-picked first [] = refl
  listed-picked first (s ∷ segments) =
      let next = first + length s.documents in
      ap (λ l. l ++ alive_listed_from tree next segments) (picked-map (is_alive s) (λ d. (first + d, pos (score tree 1 s d))) (matching tree s))
      ∙ ap (λ l. picked (items tree (scored_flag tree) first s) ++ l) (listed-picked next segments)
      ∙ sym (picked-append (items tree (scored_flag tree) first s) (items_from tree (scored_flag tree) next segments))

  -- a tree whose prefixes are expanded to all terms of the parts
  pub alive-segments : (script : Script) (readers : List Reader) (are : AreSearched script readers) →
      all_prefixes (is_reached are.parts) tree ≡ true → alive_listed_from tree 0 (segments_of readers) ≡ alive_listed_from tree 0 (all_segments script)
  alive-segments script readers are pass =
      listed-picked 0 (segments_of readers)
      ∙ ap picked (items-segments tree (scored_flag tree) script readers are pass
      (λ n s t d e reach reach_too schema document alive.
      λ i. (alive i, (n, pos (score-same (is_reached are.parts) tree pass s t reach reach_too d e schema document 1 i)))))
      ∙ sym (listed-picked 0 (all_segments script))

  -- any tree, where the open segment is in one part at most
  pub alive-one_part : (script : Script) (readers : List Reader) → AreMerged script readers →
      alive_listed_from tree 0 (segments_of readers) ≡ alive_listed_from tree 0 (all_segments script)
  alive-one_part script readers are =
      listed-picked 0 (segments_of readers)
      ∙ ap picked (items-few_segments tree (scored_flag tree) script readers
      (λ n s t d schema documents alive. λ i. (alive i, (n, pos (score-documents s t schema documents tree 1 d i)))) are.searched are.one)
      ∙ sym (listed-picked 0 (all_segments script))
