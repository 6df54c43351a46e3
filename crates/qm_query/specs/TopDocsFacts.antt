-- What a user learns of the best documents of a search: they are in order, as many as are wanted or as there are,
-- and each document that is found and not among them stands behind all of them.
use Rattle.std.specs.Prelude.{◌≡◌, ◌⊎◌, ℕ, zero, suc, ◌+◌, ◌≤◌, min, ℤ, ◌<ℤ◌, ◌≤ℤ◌, true, false, if◌then◌else◌, List, [], ◌∷◌, ◌++◌, All, Contains, drop}
use Rattle.std.specs.Prelude.{length, map, take}
use Rattle.std.specs.Int.Signed.{lt_z}
use Rattle.std.specs.List.{fold}
use Rattle.std.specs.List.Sorted.{IsPermutation}
use Rattle.std.specs.declared.cmp.Ordering.TheVariants.{Less}
use Rattle.std.proofs.Common.{arith, refl, sym, ap, subst, ◌∙◌, get_or, inl, inr, length-drop}
use Rattle.std.proofs.lemmas.Bool.{cases_Bool}
use Rattle.std.proofs.lemmas.Int.{ints, by_lt_z}
use Rattle.std.proofs.lemmas.List.{append_assoc, append-nil, length-append, length-map, length-take, map-append, take-append-drop, take-map, take-take}
use Rattle.std.proofs.lemmas.List.Elements.{All-cons, All-contains, All-head, All-map, All-nil, All-tail, All-take, All-weaker, Contains-append_cases}
use Rattle.std.proofs.lemmas.List.Elements.{Contains-append_left, Contains-append_right}
use Rattle.std.proofs.lemmas.List.Sorted.{Contains-permutation, IsPermutation-cons, IsPermutation-map, IsPermutation-middle, IsPermutation-push_more}
use Rattle.std.proofs.lemmas.List.Sorted.{IsPermutation-refl, IsPermutation-sym, IsPermutation-trans, length_permutation}
use Rattle.std.proofs.lemmas.List.Sums.{sum_by-cons}
use Rattle.qm_docset.specs.Entry.{FirstAndOthers}
use Rattle.qm_postings.specs.Address.{address_cmp}
use Rattle.qm_postings.specs.Reading.{Reader}
use Rattle.qm_postings.specs.Statistics.{Searched}
use Rattle.qm_postings.specs.declared.address.DocAddress.{DocAddress}
use Rattle.qm_postings.specs.declared.statistics.Bm25StatisticsProvider.{Ghosts}
use Rattle.qm_weight.specs.Best.{by_score, placed}
use Rattle.qm_weight.specs.Counts.{alive_count, alive_matching}
use Rattle.qm_weight.specs.Tree.{Tree}
use Rattle.qm_query.specs.Query.{Query}
use Rattle.qm_query.specs.QueryTree.{query_tree}
use Rattle.qm_query.specs.Searches.{count_in, with_scores}
use Rattle.qm_query.specs.TopDocs.{AreByAddress, AreInOrder, AreTopDocs, StandsBefore, addressed, alive_matches, alive_matches_from, all_found, score_first}
use Rattle.qm_query.specs.TopDocsOrder.{AreByAddress-from}

-- ---- a document in its place among others, which come before it by address

placed-before : (p x : DocAddress × ℤ) (xs : List (DocAddress × ℤ)) → lt_z x.1 p.1 ≡ true → placed p (x ∷ xs) ≡ p ∷ x ∷ xs
placed-before p x xs less = ap (λ b. if b then p ∷ x ∷ xs else x ∷ placed p xs) less

placed-behind : (p x : DocAddress × ℤ) (xs : List (DocAddress × ℤ)) → lt_z x.1 p.1 ≡ false → placed p (x ∷ xs) ≡ x ∷ placed p xs
placed-behind p x xs no_less = ap (λ b. if b then p ∷ x ∷ xs else x ∷ placed p xs) no_less

pub All-placed : (P : DocAddress × ℤ → Type 0) (p : DocAddress × ℤ) (xs : List (DocAddress × ℤ)) → P p → All P xs → All P (placed p xs)
All-placed P p [] here all = All-cons P p [] here all
All-placed P p (x ∷ xs) here all = elim (cases_Bool (lt_z x.1 p.1)) [
  | inl less ↦ subst (All P) (sym (placed-before p x xs less)) (All-cons P p (x ∷ xs) here all)
  | inr no_less ↦
      subst (All P) (sym (placed-behind p x xs no_less)) (All-cons P x (placed p xs) (All-head P x xs all) (All-placed P p xs here (All-tail P x xs all)))
]

IsPermutation-placed : (p : DocAddress × ℤ) (xs : List (DocAddress × ℤ)) → IsPermutation (p ∷ xs) (placed p xs)
IsPermutation-placed p [] = IsPermutation-refl (p ∷ [])
IsPermutation-placed p (x ∷ xs) = elim (cases_Bool (lt_z x.1 p.1)) [
  | inl less ↦ subst (IsPermutation (p ∷ x ∷ xs)) (sym (placed-before p x xs less)) (IsPermutation-refl (p ∷ x ∷ xs))
  | inr no_less ↦
      subst (IsPermutation (p ∷ x ∷ xs)) (sym (placed-behind p x xs no_less))
      (IsPermutation-trans (p ∷ x ∷ xs) (x ∷ p ∷ xs) (x ∷ placed p xs) (IsPermutation-sym (x ∷ p ∷ xs) (p ∷ x ∷ xs) (IsPermutation-middle (x ∷ []) p xs))
      (IsPermutation-cons x (p ∷ xs) (placed p xs) (IsPermutation-placed p xs)))
]

-- each stands before all behind it
abbrev Ordered : List (DocAddress × ℤ) → Type 0
Ordered [] = Unit {0}
Ordered (d ∷ ds) = FirstAndOthers (All (λ e. StandsBefore (score_first d) (score_first e)) ds) (Ordered ds)

-- it scores no less
no_less_score : (d e : ℤ × DocAddress) → StandsBefore d e → e.0 ≤ℤ d.0
no_less_score d e (inl less) = omega (arith, ints, less)
no_less_score d e (inr same) = omega (arith, ints, same.0)

before_all : (p x : DocAddress × ℤ) (xs : List (DocAddress × ℤ)) → x.1 <ℤ p.1 →
    All (λ e. StandsBefore (score_first x) (score_first e)) xs → All (λ e. StandsBefore (score_first p) (score_first e)) xs
before_all p x xs less all =
    All-weaker (λ e. StandsBefore (score_first x) (score_first e)) (λ e. StandsBefore (score_first p) (score_first e))
    (λ e before. let order = no_less_score (score_first x) (score_first e) before in inl (omega (arith, ints, order, less))) xs all

behind_one : (p x : DocAddress × ℤ) → p.1 ≤ℤ x.1 → address_cmp x.0 p.0 ≡ Less → StandsBefore (score_first x) (score_first p)
behind_one p x order first = by_lt_z p.1 x.1 (λ less. inl less) (λ back. inr (omega (arith, ints, order, back), first))

Ordered-placed : (p : DocAddress × ℤ) (xs : List (DocAddress × ℤ)) → All (λ x. address_cmp x.0 p.0 ≡ Less) xs → Ordered xs → Ordered (placed p xs)
Ordered-placed p [] first up = record { here = All-nil (λ e. StandsBefore (score_first p) (score_first e)); others = tt }
Ordered-placed p (x ∷ xs) first up =
    by_lt_z x.1 p.1
    (λ less.
    let test : lt_z x.1 p.1 ≡ true = grind (arith, ints) in
    subst Ordered (sym (placed-before p x xs test))
    (record { here = All-cons (λ e. StandsBefore (score_first p) (score_first e)) x xs (inl less) (before_all p x xs less up.here); others = up }))
    (λ order.
    let test : lt_z x.1 p.1 ≡ false = grind (arith, ints) in
    subst Ordered (sym (placed-behind p x xs test)) (record {
      here = All-placed (λ e. StandsBefore (score_first x) (score_first e)) p xs
          (behind_one p x order (All-head (λ y. address_cmp y.0 p.0 ≡ Less) x xs first)) up.here;
      others = Ordered-placed p xs (All-tail (λ y. address_cmp y.0 p.0 ≡ Less) x xs first) up.others;
    }))

-- ---- all documents by their scores

Ordered-fold : (ds xs : List (DocAddress × ℤ)) → All (λ x. All (λ y. address_cmp y.0 x.0 ≡ Less) ds) xs →
    AreByAddress xs → Ordered ds → Ordered (fold (λ l p. placed p l) ds xs)
Ordered-fold ds [] before by up = up
Ordered-fold ds (x ∷ xs) before by up =
    let here : All (λ y. address_cmp y.0 x.0 ≡ Less) ds = All-head (λ z. All (λ y. address_cmp y.0 z.0 ≡ Less) ds) x xs before in
    let behind : All (λ z. All (λ y. address_cmp y.0 z.0 ≡ Less) (placed x ds)) xs =
    λ k d below. All-placed (λ y. address_cmp y.0 (get_or xs k d).0 ≡ Less) x ds (by.here k d below)
    (All-tail (λ z. All (λ y. address_cmp y.0 z.0 ≡ Less) ds) x xs before k d below) in
    Ordered-fold (placed x ds) xs behind by.others (Ordered-placed x ds here up)

Ordered-by_score : (ds : List (DocAddress × ℤ)) → AreByAddress ds → Ordered (by_score ds)
Ordered-by_score ds by = Ordered-fold [] ds (λ k d below. All-nil (λ y. address_cmp y.0 (get_or ds k d).0 ≡ Less)) by tt

IsPermutation-fold : (before ds xs : List (DocAddress × ℤ)) → IsPermutation before ds → IsPermutation (before ++ xs) (fold (λ l p. placed p l) ds xs)
IsPermutation-fold before ds [] moved = subst (λ l. IsPermutation l ds) (sym (append-nil before)) moved
IsPermutation-fold before ds (x ∷ xs) moved =
    subst (λ l. IsPermutation l (fold (λ l p. placed p l) (placed x ds) xs)) (append_assoc before (x ∷ []) xs)
    (IsPermutation-fold (before ++ x ∷ []) (placed x ds) xs (IsPermutation-push_more before ds (placed x ds) x moved (IsPermutation-placed x ds)))

IsPermutation-by_score : (ds : List (DocAddress × ℤ)) → IsPermutation ds (by_score ds)
IsPermutation-by_score ds = IsPermutation-fold [] [] ds (IsPermutation-refl [])

-- ---- the first of them

Ordered-take : (k : ℕ) (ds : List (DocAddress × ℤ)) → Ordered ds → Ordered (take k ds)
Ordered-take zero ds up = tt
Ordered-take (suc k) [] up = tt
Ordered-take (suc k) (d ∷ ds) up =
    record { here = All-take (λ e. StandsBefore (score_first d) (score_first e)) k ds up.here; others = Ordered-take k ds up.others }

AreInOrder-map : (ds : List (DocAddress × ℤ)) → Ordered ds → AreInOrder (map score_first ds)
AreInOrder-map [] up = tt
AreInOrder-map (d ∷ ds) up = record { here = All-map (StandsBefore (score_first d)) score_first ds up.here; others = AreInOrder-map ds up.others }

-- the first ones stand before each of the others
first_before : (ds es : List (DocAddress × ℤ)) → Ordered (ds ++ es) → (e : DocAddress × ℤ) →
    Contains es e → All (λ d. StandsBefore (score_first d) (score_first e)) ds
first_before [] es up e is = All-nil (λ d. StandsBefore (score_first d) (score_first e))
first_before (d ∷ ds) es up e is =
    All-cons (λ x. StandsBefore (score_first x) (score_first e)) d ds (All-contains (λ x. StandsBefore (score_first d) (score_first x))
    (ds ++ es) e up.here (Contains-append_right ds es e is)) (first_before ds es up.others e is)

Contains-map : (ds : List (DocAddress × ℤ)) (d : DocAddress × ℤ) → Contains ds d → Contains (map score_first ds) (score_first d)
Contains-map [] d is = absurd (omega (arith, is.1))
Contains-map (x ∷ xs) d (zero, within, is) = (0, omega arith, ap score_first is)
Contains-map (x ∷ xs) d (suc k, within, is) =
    let rest = Contains-map xs d (k, omega (arith, within), is) in
    (suc rest.0, omega (arith, rest.1), rest.2)

-- ---- how many there are

length-from : (ord : ℕ) (tree : Tree) (readers : List Reader) → length (alive_matches_from ord tree readers) ≡ count_in tree readers
length-from ord tree [] = refl
length-from ord tree (reader ∷ readers) =
    let here = length-map (alive_matching tree reader.segment) (addressed ord tree reader.segment) in
    let others = length-from (suc ord) tree readers in
    length-append (alive_matches ord tree reader.segment) (alive_matches_from (suc ord) tree readers)
    ∙ (λ i. here i + others i) ∙ sym (sum_by-cons (λ (r : Reader). alive_count tree r.segment) reader readers)

-- ---- what is known of an answer

module _ (S : Ghosts Searched) (searcher : Searched) (query : Query) (k : ℕ) (found : List (ℤ × DocAddress)) (top : AreTopDocs S searcher query k found) where
  abbrev all : List (DocAddress × ℤ)
  all = all_found S searcher query

  up : Ordered (by_score all)
  up = Ordered-by_score all (AreByAddress-from 0 (query_tree S (with_scores searcher) query) searcher.segments)

  -- it is in order
  pub top_docs-in_order : AreInOrder found
  top_docs-in_order = subst AreInOrder (sym top.are) (AreInOrder-map (take k (by_score all)) (Ordered-take k (by_score all) up))

  length-all : length (by_score all) ≡ count_in (query_tree S (with_scores searcher) query) searcher.segments
  length-all = length_permutation all (by_score all) (IsPermutation-by_score all) ∙ length-from 0 (query_tree S (with_scores searcher) query) searcher.segments

  -- it has as many documents as are wanted, or as there are
  pub top_docs-length : length found ≡ min k (count_in (query_tree S (with_scores searcher) query) searcher.segments)
  top_docs-length = ap length top.are ∙ length-map (take k (by_score all)) score_first ∙ length-take k (by_score all) ∙ ap (min k) length-all

  -- each of them is one that the query finds, with its score
  pub top_docs-found : (d : ℤ × DocAddress) → Contains found d → Contains (map score_first all) d
  top_docs-found d is =
      Contains-permutation (map score_first (by_score all)) (map score_first all) d
      (IsPermutation-map score_first (by_score all) all (IsPermutation-sym all (by_score all) (IsPermutation-by_score all)))
      (subst (λ l. Contains (map score_first l) d) (take-append-drop k (by_score all))
      (subst (λ l. Contains l d) (sym (map-append score_first (take k (by_score all)) (drop k (by_score all))))
      (Contains-append_left (map score_first (take k (by_score all))) (map score_first (drop k (by_score all))) d (subst (λ l. Contains l d) top.are is))))

  others_by : (d : DocAddress × ℤ) → Contains (take k (by_score all)) d ⊎ Contains (drop k (by_score all)) d →
      Contains found (score_first d) ⊎ ((length found ≡ k) × All (λ e. StandsBefore e (score_first d)) found)
  others_by d (inl is) = inl (subst (λ l. Contains l (score_first d)) (sym top.are) (Contains-map (take k (by_score all)) d is))
  others_by d (inr is) =
      let behind = first_before (take k (by_score all)) (drop k (by_score all)) (subst Ordered (sym (take-append-drop k (by_score all))) up) d is in
      let full : length found ≡ k = ap length top.are ∙ length-map (take k (by_score all)) score_first
      ∙ omega (arith, length-take k (by_score all), length-drop k (by_score all), is.1) in
      inr (
        full,
        subst (All (λ e. StandsBefore e (score_first d))) (sym top.are)
            (All-map (λ e. StandsBefore e (score_first d)) score_first (take k (by_score all)) behind),
      )

  -- each document that the query finds is in it, or else it is full and all in it stand before that document
  pub top_docs-others : (d : DocAddress × ℤ) → Contains all d →
      Contains found (score_first d) ⊎ ((length found ≡ k) × All (λ e. StandsBefore e (score_first d)) found)
  top_docs-others d is =
      others_by d
      (Contains-append_cases (take k (by_score all)) (drop k (by_score all)) d
      (subst (λ l. Contains l d) (sym (take-append-drop k (by_score all))) (Contains-permutation all (by_score all) d (IsPermutation-by_score all) is)))

  -- the first of them are the best of so many
  pub top_docs-fewer : (j : ℕ) → j ≤ k → AreTopDocs S searcher query j (take j found)
  top_docs-fewer j fewer = record {
    are = ap (take j) top.are ∙ take-map score_first j (take k (by_score all)) ∙ ap (map score_first) (take-take j k (by_score all) fewer);
  }
