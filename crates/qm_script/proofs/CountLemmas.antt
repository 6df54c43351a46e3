-- How many documents a tree matches that weren't deleted, over the segments of a script, of which the open one may
-- be in parts.
use Rattle.std.proofs.Common.{◌≡◌, ℕ, ◌+◌, Bool, true, false, cond, List, [], ◌∷◌, length, length-append, map, filter, suc, refl, ap, sym, ◌∙◌, arith}
use Rattle.std.proofs.lemmas.List.Elements.{filter-append}
use Rattle.std.proofs.lemmas.List.Sums.{sum_by-cons}
use Rattle.qm_index.specs.Indexed.{AreMerged, AreSearched, all_segments}
use Rattle.qm_index.specs.Parts.{segments_of}
use Rattle.qm_postings.specs.Reading.{Reader}
use Rattle.qm_postings.specs.Segment.{Segment, is_alive}
use Rattle.qm_script.specs.Counts.{alive_in_all}
use Rattle.qm_script.specs.PrefixFree.{all_prefixes}
use Rattle.qm_script.specs.Reached.{is_reached}
use Rattle.qm_script.specs.ScriptSegments.{Script}
use Rattle.qm_weight.specs.Counts as one
use Rattle.qm_weight.specs.Tree.{Tree, matching}
use Rattle.qm_script.proofs.PartListings.{items, items-few_segments, items-segments, items_from}

-- whether a document is alive
abbrev pub flag : ℕ → Segment → ℕ → Bool
flag n s d = is_alive s d

-- how many are true
abbrev pub trues : List Bool → ℕ
trues bs = length (filter (λ b. b) bs)

trues-filter : (p : ℕ → Bool) (ds : List ℕ) → length (filter p ds) ≡ trues (map p ds)
trues-filter p [] = refl
trues-filter p (d ∷ ds) =
    elim (p d) as (λ b. length (cond b (d ∷ filter p ds) (filter p ds)) ≡ length (cond b (b ∷ filter (λ x. x) (map p ds)) (filter (λ x. x) (map p ds)))) [
      | true ↦ ap suc (trues-filter p ds)
      | false ↦ trues-filter p ds
    ]

module _ (tree : Tree) where
  pub counted-items : (first : ℕ) (segments : List Segment) → alive_in_all tree segments ≡ trues (items_from tree flag first segments)
  counted-items first [] = refl
  counted-items first (s ∷ segments) =
      let here : one.alive_count tree s ≡ trues (items tree flag first s) = trues-filter (is_alive s) (matching tree s) in
      let rest = counted-items (first + length s.documents) segments in
      let all = items_from tree flag (first + length s.documents) segments in
      omega (
        arith,
        sum_by-cons (λ x. one.alive_count tree x) s segments,
        here,
        rest,
        ap length (filter-append (λ b. b) (items tree flag first s) all),
        length-append (filter (λ b. b) (items tree flag first s)) (filter (λ b. b) all),
      )

  -- a tree whose prefixes are expanded to all terms of the parts
  pub counted-segments : (script : Script) (readers : List Reader) (are : AreSearched script readers) → all_prefixes (is_reached are.parts) tree ≡ true →
      alive_in_all tree (segments_of readers) ≡ alive_in_all tree (all_segments script)
  counted-segments script readers are pass =
      counted-items 0 (segments_of readers)
      ∙ ap trues (items-segments tree flag script readers are pass (λ n s t d e reach reach_too schema document alive. alive))
      ∙ sym (counted-items 0 (all_segments script))

  -- any tree, where the open segment is in one part at most
  pub counted-one_part : (script : Script) (readers : List Reader) → AreMerged script readers →
      alive_in_all tree (segments_of readers) ≡ alive_in_all tree (all_segments script)
  counted-one_part script readers are =
      counted-items 0 (segments_of readers)
      ∙ ap trues (items-few_segments tree flag script readers (λ n s t d schema documents alive. alive) are.searched are.one)
      ∙ sym (counted-items 0 (all_segments script))
