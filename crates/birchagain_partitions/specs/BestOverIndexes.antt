-- What a query finds in the segments of two indexes together, by what it finds in each.
use Rattle.std.specs.Prelude.{◌≡◌, ℕ, ℤ, ◌+◌, List, [], ◌∷◌, ◌++◌, None, Ok, Option, Some, length, map, pos, unwrap_or}
use Rattle.std.specs.List.{flat_map}
use Rattle.std.proofs.Common.{arith, refl, sym, ap, subst, ◌∙◌}
use Rattle.std.proofs.Math.Nat.{add_assoc}
use Rattle.std.proofs.lemmas.List.{append_assoc, length-append, map-append, map-id}
use Rattle.std.proofs.lemmas.List.Sums.{sum_by-append}
use Rattle.std.proofs.lemmas.Simd.{map-map}
use Rattle.qm_index.specs.Indexed.{Indexed, all_segments}
use Rattle.qm_postings.specs.Segment.{Segment}
use Rattle.qm_postings.specs.Statistics.{Searched, with_segments}
use Rattle.qm_postings.specs.contracts.searcher.SearcherBm25StatisticsProvider.TheImpl.{ghosts}
use Rattle.qm_query.proofs.SearchFacts.{same_tree}
use Rattle.qm_query.specs.EnableScoring.{provider_of}
use Rattle.qm_query.specs.Query.{Query}
use Rattle.qm_query.specs.declared.enable_scoring.EnableScoring.{EnableScoring}
use Rattle.qm_query.specs.declared.enable_scoring.EnableScoring.TheVariants.{Enabled, Disabled}
use Rattle.qm_script.proofs.BestListings.{best-renamed}
use Rattle.qm_script.specs.Asked.{asked}
use Rattle.qm_script.specs.BestListed.{alive_listed, alive_listed_from, best_listed, scored_item}
use Rattle.qm_script.specs.Counts.{alive_in_all}
use Rattle.qm_script.specs.Found.{found_alive, found_best}
use Rattle.qm_script.specs.Parts.{document_count}
use Rattle.qm_script.specs.Script as language
use Rattle.qm_script.specs.Searching.{AreBestIn, IsCountIn}
use Rattle.qm_script.specs.Under.{tree_of}
use Rattle.qm_script.specs.declared.searching.Hit.{Hit}
use Rattle.qm_weight.specs.Best.{best}
use Rattle.qm_weight.specs.Counts as one
use Rattle.qm_weight.specs.Counts.{alive_matching}
use Rattle.qm_weight.specs.Tree.{Tree, score}
use Rattle.birchagain_partitions.specs.BestOfParts.{best-of_parts, best-ranked}
use Rattle.birchagain_partitions.specs.Merging.{items, moved, of_both}
use Rattle.birchagain_partitions.specs.Ranked.{IsRanked}

-- a hit as a listing has it
abbrev pub listed : List Hit → List (ℕ × Option ℤ)
listed hits = map (λ h. (h.document, Some h.score)) hits

-- ---- documents that are numbered further on

alive_listed-moved : (tree : Tree) (n first : ℕ) (s : Segment) → alive_listed tree (n + first) s ≡ map (moved n) (alive_listed tree first s)
alive_listed-moved tree n first s =
    (λ i. map (λ d. (add_assoc n first d i, pos (score tree 1 s d))) (alive_matching tree s))
    ∙ sym (map-map (moved n) (λ d. (first + d, pos (score tree 1 s d))) (alive_matching tree s))

alive_listed_from-moved : (tree : Tree) (n first : ℕ) (segments : List Segment) →
    alive_listed_from tree (n + first) segments ≡ map (moved n) (alive_listed_from tree first segments)
alive_listed_from-moved tree n first [] = refl
alive_listed_from-moved tree n first (s ∷ ss) =
    (λ i. alive_listed-moved tree n first s i ++ alive_listed_from tree (add_assoc n first (length s.documents) i) ss)
    ∙ ap (λ l. map (moved n) (alive_listed tree first s) ++ l) (alive_listed_from-moved tree n (first + length s.documents) ss)
    ∙ sym (map-append (moved n) (alive_listed tree first s) (alive_listed_from tree (first + length s.documents) ss))

alive_listed_from-append : (tree : Tree) (first : ℕ) (ss ts : List Segment) →
    alive_listed_from tree first (ss ++ ts) ≡ alive_listed_from tree first ss ++ alive_listed_from tree (first + document_count ss) ts
alive_listed_from-append tree first [] ts = ap (λ n. alive_listed_from tree n ts) (omega arith)
alive_listed_from-append tree first (s ∷ ss) ts =
    let next = first + length s.documents in
    let counted : next + document_count ss ≡ first + document_count (s ∷ ss) =
    omega (arith, length-append s.documents (flat_map (λ t. t.documents) ss)) in
    ap (λ l. alive_listed tree first s ++ l)
    (alive_listed_from-append tree next ss ts ∙ ap (λ n. alive_listed_from tree next ss ++ alive_listed_from tree n ts) counted)
    ∙ sym (append_assoc (alive_listed tree first s) (alive_listed_from tree next ss) (alive_listed_from tree (first + document_count (s ∷ ss)) ts))

-- ---- the best of both

abbrev unlisted : ℕ × Option ℤ → ℕ × ℤ
unlisted i = (i.0, unwrap_or i.1 (pos 0))

items-listed : (hits : List Hit) (found : List (ℕ × ℤ)) → map scored_item found ≡ listed hits → items hits ≡ found
items-listed hits found is =
    sym (map-map unlisted (λ (h : Hit). (h.document, Some h.score)) hits)
    ∙ ap (map unlisted) (sym is)
    ∙ map-map unlisted scored_item found
    ∙ map-id found

-- what an index gave has its best first
pub ranked-in : (q : language.Query) (s : Indexed) (words : Searched) (limit : ℕ) (hits : List Hit) → AreBestIn q s words limit (listed hits) → IsRanked (items hits)
ranked-in q s words limit hits are =
    let found = best limit (alive_listed_from (tree_of are.enable are.query) 0 (all_segments s)) in
    subst IsRanked (sym (items-listed hits found (sym are.best))) (best-ranked limit (alive_listed_from (tree_of are.enable are.query) 0 (all_segments s)))

-- Where each index gave its best, the best of these are the best of the segments of both, those of the second
-- behind those of the first.
pub merged-best : (limit : ℕ) (enable : EnableScoring Searched) (query : Query) (ss ts : List Segment) (xs ys hits : List Hit) →
    found_best limit enable query ss ≡ listed xs → found_best limit enable query ts ≡ listed ys →
    items hits ≡ best limit (of_both (document_count ss) xs ys) → found_best limit enable query (ss ++ ts) ≡ listed hits
merged-best limit enable query ss ts xs ys hits first second is =
    let tree = tree_of enable query in
    let n = document_count ss in
    let of_first = alive_listed_from tree 0 ss in
    let of_second = alive_listed_from tree 0 ts in
    let both : alive_listed_from tree 0 (ss ++ ts) ≡ of_first ++ map (moved n) of_second =
    alive_listed_from-append tree 0 ss ts
    ∙ ap (λ l. of_first ++ l) (ap (λ k. alive_listed_from tree k ts) (omega arith) ∙ alive_listed_from-moved tree n 0 ts) in
    let bests : best limit (of_first ++ map (moved n) of_second) ≡ best limit (of_both n xs ys) =
    best-of_parts limit of_first (map (moved n) of_second)
    ∙ (λ i. best limit (sym (items-listed xs (best limit of_first) first) i ++ sym (best-renamed (λ d. n + d) limit of_second) i))
    ∙ ap (λ l. best limit (items xs ++ map (moved n) l)) (sym (items-listed ys (best limit of_second) second)) in
    ap (λ l. map scored_item (best limit l)) both
    ∙ ap (map scored_item) (bests ∙ sym is)
    ∙ map-map scored_item (λ (h : Hit). (h.document, h.score)) hits

-- Counts add up.
pub found_alive-append : (enable : EnableScoring Searched) (query : Query) (ss ts : List Segment) →
    found_alive enable query (ss ++ ts) ≡ found_alive enable query ss + found_alive enable query ts
found_alive-append enable query ss ts = sum_by-append (λ s. one.alive_count (tree_of enable query) s) ss ts

-- ---- two indexes

-- An index has the segments of two, those of the second behind those of the first.
pub record HasSegmentsOf (s t both : Indexed) : Type 0 where
  pub segments : all_segments both ≡ all_segments s ++ all_segments t
  pub fields : both.current.schema ≡ s.current.schema

-- words weigh alike under two that want scores by them
tree-alike : (e f : EnableScoring Searched) (x y : Searched) → provider_of e ≡ Some x → provider_of f ≡ Some y →
    with_segments x [] ≡ with_segments y [] → (query : Query) → tree_of e query ≡ tree_of f query
tree-alike (Enabled s p) (Enabled t r) x y here there alike query =
    let first : p.now ≡ x = cc in
    let second : y ≡ r.now = cc in
    let is : with_segments p.now [] ≡ with_segments r.now [] = ap (λ s. with_segments s []) first ∙ alike ∙ ap (λ s. with_segments s []) second in
    same_tree ghosts (Enabled s p) (Enabled t r) refl (λ terms i. Some (record { weight = ghosts.weight_of (is i) terms; norms = (is i).norms; boost = 1 })) query
tree-alike (Disabled schema s) f x y here there alike query = cc
tree-alike (Enabled s p) (Disabled schema t) x y here there alike query = cc

-- without scores no word weighs
tree-without : (e f : EnableScoring Searched) → provider_of e ≡ None → provider_of f ≡ None → (query : Query) → tree_of e query ≡ tree_of f query
tree-without (Disabled a s) (Disabled b t) here there query = same_tree ghosts (Disabled a s) (Disabled b t) refl (λ terms. refl) query
tree-without (Enabled s p) f here there query = cc
tree-without (Disabled a s) (Enabled t r) here there query = cc

-- one text says one query
same_query : (q : language.Query) (x y : Query) → asked q ≡ Ok x → asked q ≡ Ok y → y ≡ x
same_query q x y first second = cc

-- The best of both are the best of both's best, where words weigh alike in both.
pub best_in-both : (q : language.Query) (s t both : Indexed) (words : Searched) (limit : ℕ) (xs ys hits : List Hit) → HasSegmentsOf s t both →
    AreBestIn q s words limit (listed xs) → AreBestIn q t words limit (listed ys) →
    items hits ≡ best limit (of_both (document_count (all_segments s)) xs ys) → AreBestIn q both words limit (listed hits)
best_in-both q s t both words limit xs ys hits all first second is =
    let query = first.query in
    let asked_alike : second.query ≡ query = same_query q query second.query first.built second.built in
    let tree : tree_of second.enable second.query ≡ tree_of first.enable query =
    ap (tree_of second.enable) asked_alike
    ∙ tree-alike second.enable first.enable second.searched first.searched second.scores first.scores (second.weighed ∙ sym first.weighed) query in
    let found : found_best limit first.enable query (all_segments t) ≡ listed ys =
    ap (λ u. best_listed limit u (all_segments t)) (sym tree) ∙ sym second.best in
    record {
      query = query;
      built = first.built;
      enable = first.enable;
      fields = first.fields ∙ sym all.fields;
      searched = first.searched;
      scores = first.scores;
      weighed = first.weighed;
      best = sym (ap (found_best limit first.enable query) all.segments
          ∙ merged-best limit first.enable query (all_segments s) (all_segments t) xs ys hits (sym first.best) found is);
    }

-- As many match in both as in each together.
pub count_in-both : (q : language.Query) (s t both : Indexed) (n m : ℕ) → HasSegmentsOf s t both →
    IsCountIn q s n → IsCountIn q t m → IsCountIn q both (n + m)
count_in-both q s t both n m all first second =
    let query = first.query in
    let asked_alike : second.query ≡ query = same_query q query second.query first.built second.built in
    let tree : tree_of second.enable second.query ≡ tree_of first.enable query =
    ap (tree_of second.enable) asked_alike ∙ tree-without second.enable first.enable second.scores first.scores query in
    let other : m ≡ found_alive first.enable query (all_segments t) = second.count ∙ ap (λ u. alive_in_all u (all_segments t)) tree in
    record {
      query = query;
      built = first.built;
      enable = first.enable;
      fields = first.fields ∙ sym all.fields;
      scores = first.scores;
      count = (λ i. first.count i + other i) ∙ sym (found_alive-append first.enable query (all_segments s) (all_segments t))
          ∙ ap (found_alive first.enable query) (sym all.segments);
    }
