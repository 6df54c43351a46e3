-- What a tree lists over segments of which the terms alone are kept that it names is what it lists over the segments.
use Rattle.std.proofs.Common.{◌≡◌, ℕ, ℤ, ◌+◌, Bool, true, false, ◌&&◌, List, [], ◌∷◌, ◌++◌, Some, length, map, nat_lt, not, pos, refl, ap, sym, ◌∙◌}
use Rattle.std.specs.List.{AllByRecursion}
use Rattle.std.proofs.lemmas.List.{length-map}
use Rattle.qm_postings.specs.Restriction.{keeping, restricted}
use Rattle.qm_postings.specs.Segment.{Segment, is_alive, is_deleted}
use Rattle.qm_schema.specs.Term.{TermKey}
use Rattle.qm_script.specs.AllSegments.{all_listed, listed, wanted_score}
use Rattle.qm_script.specs.BestListed.{alive_listed_from}
use Rattle.qm_script.specs.Counts.{alive_in_all}
use Rattle.qm_script.specs.Pruned.{all_pruned, pruned_from, rising}
use Rattle.qm_weight.specs.Names.{Names}
use Rattle.qm_weight.specs.Tree.{Tree, matching}
use Rattle.qm_weight.proofs.RestrictedTrees.{matching-restricted, score-restricted}
use Rattle.qm_script.proofs.BestListings.{listed-picked, picked, scored_flag}
use Rattle.qm_script.proofs.CountLemmas.{counted-items, flag, trues}
use Rattle.qm_script.proofs.OverParts.{listed-items, numbered_item}
use Rattle.qm_script.proofs.PartListings.{items, items_from}

module _ (tree : Tree) (wanted : TermKey → Bool) where
  -- an item says the same of both
  abbrev IsKept : {Y : Type 0} → (ℕ → Segment → ℕ → Y) → Segment → Type 0
  IsKept item s = (n d : ℕ) → item n (restricted wanted s) d ≡ item n s d

  module _ (s : Segment) where
    alive-kept : (d : ℕ) → is_alive (restricted wanted s) d ≡ is_alive s d
    alive-kept d = ap (λ n. nat_lt d n && not (is_deleted s d)) (length-map s.documents (keeping wanted))

    module _ (named : Names wanted s tree) where
      scored-kept : (scored : Bool) (d : ℕ) → wanted_score scored tree (restricted wanted s) d ≡ wanted_score scored tree s d
      scored-kept false d = refl
      scored-kept true d = ap (λ k. Some (pos k)) (score-restricted wanted s tree named 1 d)

      items-kept : {Y : Type 0} (item : ℕ → Segment → ℕ → Y) → IsKept item s → (first : ℕ) →
          items tree item first (restricted wanted s) ≡ items tree item first s
      items-kept item kept first =
          ap (map (λ d. item (first + d) (restricted wanted s) d)) (matching-restricted wanted s tree named)
          ∙ (λ i. map (λ d. kept (first + d) d i) (matching tree s))

  -- each of them names wanted terms alone
  abbrev pub AllName : List Segment → Type 0
  AllName segments = AllByRecursion (λ s. Names wanted s tree) segments

  all-kept : {Y : Type 0} (item : ℕ → Segment → ℕ → Y) → ((s : Segment) → Names wanted s tree → IsKept item s) → (first : ℕ) (segments : List Segment) →
      AllName segments → items_from tree item first (map (restricted wanted) segments) ≡ items_from tree item first segments
  all-kept item kept first [] named = refl
  all-kept item kept first (s ∷ segments) named =
      (λ i. items-kept s named.0 item (kept s named.0) first i
      ++ items_from tree item (first + length-map s.documents (keeping wanted) i) (map (restricted wanted) segments))
      ∙ ap (λ l. items tree item first s ++ l) (all-kept item kept (first + length s.documents) segments named.1)

  module _ (segments : List Segment) (named : AllName segments) where
    pub listed-narrowed : (scored : Bool) → all_listed scored tree (map (restricted wanted) segments) ≡ all_listed scored tree segments
    listed-narrowed scored =
        listed-items tree scored 0 (map (restricted wanted) segments)
        ∙ all-kept (numbered_item tree scored) (λ s own n d. ap (λ k. (n, k)) (scored-kept s own scored d)) 0 segments named
        ∙ sym (listed-items tree scored 0 segments)

    pub counted-narrowed : alive_in_all tree (map (restricted wanted) segments) ≡ alive_in_all tree segments
    counted-narrowed =
        counted-items tree 0 (map (restricted wanted) segments)
        ∙ ap trues (all-kept flag (λ s own n d. alive-kept s d) 0 segments named)
        ∙ sym (counted-items tree 0 segments)

    pub alive-narrowed : alive_listed_from tree 0 (map (restricted wanted) segments) ≡ alive_listed_from tree 0 segments
    alive-narrowed =
        listed-picked tree 0 (map (restricted wanted) segments)
        ∙ ap picked (all-kept (scored_flag tree) (λ s own n d. λ i. (alive-kept s d i, (n, pos (score-restricted wanted s tree own 1 d i)))) 0 segments named)
        ∙ sym (listed-picked tree 0 segments)

  pruned-kept : (threshold : ℤ) (first : ℕ) (segments : List Segment) → AllName segments →
      pruned_from threshold tree first (map (restricted wanted) segments) ≡ pruned_from threshold tree first segments
  pruned-kept threshold first [] named = refl
  pruned-kept threshold first (s ∷ segments) named =
      (λ i. rising threshold (items-kept s named.0 (numbered_item tree true) (λ n d. ap (λ k. (n, k)) (scored-kept s named.0 true d)) first i)
      ++ pruned_from threshold tree (first + length-map s.documents (keeping wanted) i) (map (restricted wanted) segments))
      ∙ ap (λ l. rising threshold (listed true tree first s) ++ l) (pruned-kept threshold (first + length s.documents) segments named.1)

  pub pruned-narrowed : (threshold : ℤ) (segments : List Segment) → AllName segments →
      all_pruned threshold tree (map (restricted wanted) segments) ≡ all_pruned threshold tree segments
  pruned-narrowed threshold segments named = pruned-kept threshold 0 segments named
