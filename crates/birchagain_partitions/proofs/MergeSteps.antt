-- One hit more of two answers that are merged.
use Rattle.std.specs.Prelude.{◌≡◌, ◌⊎◌, ℕ, zero, suc, ◌+◌, ◌<◌, ◌≤◌, ℤ, pos, ◌<ℤ◌, ◌≤ℤ◌, List, [], ◌∷◌, ◌++◌, drop, length, map, take}
use Rattle.std.proofs.Common.{arith, refl, sym, ap, subst, ◌∙◌, get_or, inl, inr}
use Rattle.std.proofs.Math.ListN.{set}
use Rattle.std.proofs.lemmas.Grind.{drop_more_same}
use Rattle.std.proofs.lemmas.List.{append-nil, append_assoc, drop_more, drop-set-lt, map-append, take-append-le, take_all, take_more_set}
use Rattle.qm_script.specs.declared.searching.Hit.{Hit}
use Rattle.birchagain_partitions.specs.BestOfParts.{by_score-ranked, joined, joined-first, joined-second}
use Rattle.birchagain_partitions.specs.Merging.{IsFirstNext, IsSecondNext, item, items, moved, score_at}
use Rattle.birchagain_partitions.specs.Ranked.{IsRanked, IsRankedBelow}

IsRankedBelow-moved : (first : ℕ) (bound : ℤ) (ps : List (ℕ × ℤ)) → IsRankedBelow bound ps → IsRankedBelow bound (map (moved first) ps)
IsRankedBelow-moved first bound [] ranked = tt
IsRankedBelow-moved first bound (p ∷ ps) ranked = (ranked.0, IsRankedBelow-moved first p.1 ps ranked.1)

pub IsRanked-moved : (first : ℕ) (ps : List (ℕ × ℤ)) → IsRanked ps → IsRanked (map (moved first) ps)
IsRanked-moved first [] ranked = tt
IsRanked-moved first (p ∷ ps) ranked = IsRankedBelow-moved first p.1 ps ranked

IsRanked-behind : (h : Hit) (hits : List Hit) → IsRanked (items (h ∷ hits)) → IsRanked (items hits)
IsRanked-behind h [] ranked = tt
IsRanked-behind h (x ∷ xs) ranked = ranked.1

IsRanked-drop : (i : ℕ) (hits : List Hit) → IsRanked (items hits) → IsRanked (items (drop i hits))
IsRanked-drop zero hits ranked = ranked
IsRanked-drop (suc i) [] ranked = tt
IsRanked-drop (suc i) (h ∷ hits) ranked = IsRanked-drop i hits (IsRanked-behind h hits ranked)

abbrev pub no_hit : Hit
no_hit = record { document = 0; score = pos 0 }

-- what stands first behind so many is the next
within_drop : (hits : List Hit) (i : ℕ) (h : Hit) (others : List Hit) → drop i hits ≡ h ∷ others → i < length hits
within_drop [] zero h others is = cc
within_drop [] (suc i) h others is = cc
within_drop (x ∷ xs) zero h others is = omega arith
within_drop (x ∷ xs) (suc i) h others is = omega (arith, within_drop xs i h others is)

first_dropped : (hits : List Hit) (i : ℕ) (d h : Hit) (others : List Hit) → drop i hits ≡ h ∷ others → get_or hits i d ≡ h
first_dropped [] zero d h others is = cc
first_dropped [] (suc i) d h others is = cc
first_dropped (x ∷ xs) zero d h others is = cc
first_dropped (x ∷ xs) (suc i) d h others is = first_dropped xs i d h others is

score-dropped : (hits : List Hit) (i : ℕ) (h : Hit) (others : List Hit) → drop i hits ≡ h ∷ others → score_at hits i ≡ h.score
score-dropped hits i h others is = ap (λ x. x.score) (first_dropped hits i no_hit h others is)

module _ (offset : ℕ) where
  -- the best of what is left of both
  abbrev pub left : List Hit → List Hit → List (ℕ × ℤ)
  left xs ys = joined (items xs) (map (moved offset) (items ys))

  left-first : (x : Hit) (xs ys : List Hit) → IsRanked (items ys) → ((y : Hit) (others : List Hit) → ys ≡ y ∷ others → y.score ≤ℤ x.score) →
      left (x ∷ xs) ys ≡ item x ∷ left xs ys
  left-first x xs [] ranked below = refl
  left-first x xs (y ∷ ys) ranked below =
      joined-first (item x) (items xs) (map (moved offset) (items (y ∷ ys)))
      (below y ys refl, IsRankedBelow-moved offset y.score (items ys) ranked)

  left-second : (y : Hit) (xs ys : List Hit) → IsRanked (items (y ∷ ys)) → ((x : Hit) (others : List Hit) → xs ≡ x ∷ others → x.score <ℤ y.score) →
      left xs (y ∷ ys) ≡ moved offset (item y) ∷ left xs ys
  left-second y [] ys ranked less =
      let here = IsRanked-moved offset (items (y ∷ ys)) ranked in
      let others = IsRanked-moved offset (items ys) (IsRanked-behind y ys ranked) in
      by_score-ranked (map (moved offset) (items (y ∷ ys))) here
      ∙ ap (λ l. moved offset (item y) ∷ l) (sym (by_score-ranked (map (moved offset) (items ys)) others))
  left-second y (x ∷ xs) ys ranked less =
      joined-second (item x) (moved offset (item y)) (items xs) (map (moved offset) (items ys)) (less x xs refl)
      (IsRankedBelow-moved offset y.score (items ys) ranked)

  -- the next of the first list
  pub left-step_first : (xs ys : List Hit) (i j : ℕ) → IsRanked (items ys) → IsFirstNext xs i ys j →
      left (drop i xs) (drop j ys) ≡ item (get_or xs i no_hit) ∷ left (drop (i + 1) xs) (drop j ys)
  left-step_first xs ys i j ranked next =
      ap (λ l. left l (drop j ys)) (drop_more xs i no_hit next.there)
      ∙ left-first (get_or xs i no_hit) (drop (i + 1) xs) (drop j ys) (IsRanked-drop j ys ranked)
      (λ y others at. subst (λ s. s ≤ℤ score_at xs i) (score-dropped ys j y others at) (next.no_less (within_drop ys j y others at)))

  -- the next of the second
  pub left-step_second : (xs ys : List Hit) (i j : ℕ) → IsRanked (items ys) → IsSecondNext xs i ys j →
      left (drop i xs) (drop j ys) ≡ moved offset (item (get_or ys j no_hit)) ∷ left (drop i xs) (drop (j + 1) ys)
  left-step_second xs ys i j ranked next =
      let more = drop_more ys j no_hit next.there in
      ap (left (drop i xs)) more
      ∙ left-second (get_or ys j no_hit) (drop i xs) (drop (j + 1) ys) (subst (λ l. IsRanked (items l)) more (IsRanked-drop j ys ranked))
      (λ x others at. subst (λ s. s <ℤ score_at ys j) (score-dropped xs i x others at) (next.more (within_drop xs i x others at)))

-- one hit more is written behind so many
pub one-written : (out : List Hit) (n : ℕ) (h : Hit) (rest all : List (ℕ × ℤ)) → n < length out →
    items (take n out) ++ item h ∷ rest ≡ all → items (take (n + 1) (set out n h)) ++ rest ≡ all
one-written out n h rest all within is =
    ap (λ l. items l ++ rest) (take_more_set out n h within)
    ∙ ap (λ l. l ++ rest) (map-append item (take n out) (h ∷ []))
    ∙ append_assoc (items (take n out)) (item h ∷ []) rest
    ∙ is

-- and what stands behind is what it was
pub one-behind : (out before : List Hit) (n : ℕ) (h : Hit) → drop n out ≡ drop n before → drop (n + 1) (set out n h) ≡ drop (n + 1) before
one-behind out before n h same = drop-set-lt (n + 1) out n h (omega arith) ∙ drop_more_same out before n same

-- the first so many, where no more are wanted, or no more are there
pub take-written : (k n : ℕ) (ps rest : List (ℕ × ℤ)) → length ps ≡ n → n ≤ k → (n ≡ k) ⊎ (rest ≡ []) → take k (ps ++ rest) ≡ ps
take-written k n ps rest long few (inl full) =
    take-append-le k ps rest (omega (arith, long, full)) ∙ take_all k ps (omega (arith, long, few))
take-written k n ps rest long few (inr none) =
    ap (λ l. take k (ps ++ l)) none ∙ ap (take k) (append-nil ps) ∙ take_all k ps (omega (arith, long, few))
