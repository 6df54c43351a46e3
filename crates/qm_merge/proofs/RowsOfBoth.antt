-- A row of two of one term, and a row of documents that come behind others.
use Rattle.std.proofs.Common.{◌≡◌, ◌==◌, ℕ, ◌+◌, ◌<◌, ◌≤◌, List, [], ◌∷◌, ◌++◌, ◌⊎◌, drop, take, length, map, refl, ap, subst, sym, ◌∙◌, arith, inl, inr}
use Rattle.std.specs.FinMap.{find}
use Rattle.std.specs.Prelude.{All, filter}
use Rattle.std.proofs.lemmas.Bool.{cases_Bool, cases_eq, eq-eqb, ne_eqb}
use Rattle.std.proofs.lemmas.List.{length-append, length-map, length-take, map-append, take-append-le, drop-append-le}
use Rattle.std.proofs.lemmas.List.Concat.{flat_map-cons}
use Rattle.std.proofs.lemmas.List.Elements.{All-append, All-head, All-map, All-tail, All-weaker}
use Rattle.qm_docset.specs.ListFacts.{filter-map, filter-same, map-map}
use Rattle.qm_schema.specs.Schema.{FieldFacts}
use Rattle.qm_schema.specs.Term.{TermKey, term_cmp}
use Rattle.qm_postings.specs.Kept.{Posted, held, posted_together}
use Rattle.qm_postings.specs.Rows.{ArePlaces, IsRow, Row, all_posted, posted}
use Rattle.qm_postings.specs.Segment.{AscendFrom, keeps_positions}
use Rattle.qm_postings.proofs.ArrayEntries.{drop-nil}
use Rattle.qm_postings.proofs.FoundTerms.{found_in}
use Rattle.qm_merge.proofs.FoundInRows.{found_among}
use Rattle.qm_merge.specs.JoinedRows.{row_behind, row_of_both}

-- ---- the positions of a row, where others stand behind them

-- each posting has its positions, or there are none at all
abbrev pub AreApart : List ℕ → List ℕ → List ℕ → Type 0
AreApart fs ps qs = ArePlaces fs ps ⊎ ((ps ≡ []) × (qs ≡ []))

seam-front : (f : ℕ) (fs ps qs : List ℕ) → AreApart (f ∷ fs) ps qs → take f (ps ++ qs) ≡ take f ps
seam-front f fs ps qs (inl are) = take-append-le f ps qs (omega (arith, are.0, length-take f ps))
seam-front f fs ps qs (inr none) = (λ i. take f (none.0 i ++ none.1 i)) ∙ ap (take f) (sym none.0)

seam-rest : (f : ℕ) (fs ps qs : List ℕ) → AreApart (f ∷ fs) ps qs → drop f (ps ++ qs) ≡ drop f ps ++ qs
seam-rest f fs ps qs (inl are) = drop-append-le f ps qs (omega (arith, are.0, length-take f ps))
seam-rest f fs ps qs (inr none) = (λ i. drop f (none.0 i ++ none.1 i)) ∙ drop-nil f ∙ sym ((λ i. drop f (none.0 i) ++ none.1 i) ∙ ap (λ l. l ++ []) (drop-nil f))

apart-rest : (f : ℕ) (fs ps qs : List ℕ) → AreApart (f ∷ fs) ps qs → AreApart fs (drop f ps) qs
apart-rest f fs ps qs (inl are) = inl are.2
apart-rest f fs ps qs (inr none) = inr (ap (drop f) none.0 ∙ drop-nil f, none.1)

apart-end : (ps qs : List ℕ) → AreApart [] ps qs → ps ≡ []
apart-end ps qs (inl are) = are
apart-end ps qs (inr none) = none.0

-- the postings of both stand end to end
pub together-both : (t : TermKey) (ds fs ps es gs qs : List ℕ) → length fs ≡ length ds → AreApart fs ps qs →
    posted_together t (ds ++ es) (fs ++ gs) (ps ++ qs) ≡ posted_together t ds fs ps ++ posted_together t es gs qs
together-both t [] [] ps es gs qs paired apart = ap (λ l. posted_together t es gs (l ++ qs)) (apart-end ps qs apart)
together-both t [] (f ∷ fs) ps es gs qs paired apart = absurd (omega (arith, paired))
together-both t (d ∷ ds) [] ps es gs qs paired apart = absurd (omega (arith, paired))
together-both t (d ∷ ds) (f ∷ fs) ps es gs qs paired apart =
    let first = seam-front f fs ps qs apart in
    let rest = seam-rest f fs ps qs apart in
    (λ i. record { term = t; document = d; frequency = f; positions = first i } ∷ posted_together t (ds ++ es) (fs ++ gs) (rest i))
    ∙ ap (λ l. record { term = t; document = d; frequency = f; positions = take f ps } ∷ l)
    (together-both t ds fs (drop f ps) es gs qs (omega (arith, paired)) (apart-rest f fs ps qs apart))

pub places-both : (fs ps gs qs : List ℕ) → ArePlaces fs ps → ArePlaces gs qs → ArePlaces (fs ++ gs) (ps ++ qs)
places-both [] ps gs qs are more = subst (λ l. ArePlaces gs (l ++ qs)) (sym are) more
places-both (f ∷ fs) ps gs qs are more =
    let first = seam-front f fs ps qs (inl are) in (
      ap length first ∙ are.0,
      subst (AscendFrom 0) (sym first) are.1,
      subst (ArePlaces (fs ++ gs)) (sym (seam-rest f fs ps qs (inl are))) (places-both fs (drop f ps) gs qs are.2 more),
    )

-- ---- documents that come behind others

-- one posting of such a document
abbrev pub posted_behind : ℕ → Posted → Posted
posted_behind n p = record { term = p.term; document = n + p.document; frequency = p.frequency; positions = p.positions }

together-behind : (n : ℕ) (t : TermKey) (ds fs ps : List ℕ) →
    posted_together t (map (λ d. n + d) ds) fs ps ≡ map (posted_behind n) (posted_together t ds fs ps)
together-behind n t [] fs ps = refl
together-behind n t (d ∷ ds) [] ps = refl
together-behind n t (d ∷ ds) (f ∷ fs) ps =
    ap (λ l. record { term = t; document = n + d; frequency = f; positions = take f ps } ∷ l) (together-behind n t ds fs (drop f ps))

all-behind : (n : ℕ) (rows : List Row) → all_posted (map (row_behind n) rows) ≡ map (posted_behind n) (all_posted rows)
all-behind n [] = refl
all-behind n (r ∷ rows) =
    flat_map-cons posted (row_behind n r) (map (row_behind n) rows)
    ∙ (λ i. together-behind n r.term r.documents r.frequencies r.positions i ++ all-behind n rows i)
    ∙ sym (map-append (posted_behind n) (posted r) (all_posted rows))
    ∙ ap (map (posted_behind n)) (sym (flat_map-cons posted r rows))

same-behind : (n x d : ℕ) → (n + x == n + d) ≡ (x == d)
same-behind n x d = elim (cases_eq x d) [
  | inl same ↦ eq-eqb (n + x) (n + d) (omega (arith, same)) ∙ sym (eq-eqb x d same)
  | inr other ↦ ne_eqb (n + x) (n + d) (λ e. other (omega (arith, e))) ∙ sym (ne_eqb x d other)
]

found-behind : (n d : ℕ) (t : TermKey) (ps : List Posted) → found_in (n + d) t (map (posted_behind n) ps) ≡ found_in d t ps
found-behind n d t ps =
    let own : List Posted = filter (λ p. n + p.document == n + d) ps in
    ap (λ l. find term_cmp t (map held l)) (filter-map (λ (p : Posted). p.document == n + d) (posted_behind n) ps)
    ∙ ap (find term_cmp t) (map-map held (posted_behind n) own)
    ∙ ap (λ l. find term_cmp t (map held l)) (filter-same (λ (p : Posted). n + p.document == n + d) (λ p. p.document == d) ps (λ p. same-behind n p.document d))

-- what rows say of a document, they say of it behind others
pub found_among-behind : (n d : ℕ) (t : TermKey) (rows : List Row) → found_among (n + d) t (map (row_behind n) rows) ≡ found_among d t rows
found_among-behind n d t rows = ap (found_in (n + d) t) (all-behind n rows) ∙ found-behind n d t (all_posted rows)

pub ascend-lower : (low high : ℕ) (xs : List ℕ) → low ≤ high → AscendFrom high xs → AscendFrom low xs
ascend-lower low high [] le h = tt
ascend-lower low high (x ∷ xs) le h = (omega (arith, h.0, le), h.1, h.2)

ascend-both : (low n : ℕ) (xs ys : List ℕ) → low ≤ n → AscendFrom low xs → All (λ d. d < n) xs → AscendFrom n ys → AscendFrom low (xs ++ ys)
ascend-both low n [] ys le h below more = ascend-lower low n ys le more
ascend-both low n (x ∷ xs) ys le h below more = (
  h.0,
  h.1,
  ascend-both (x + 1) n xs ys (omega (arith, All-head (λ d. d < n) x xs below)) h.2 (All-tail (λ d. d < n) x xs below) more,
)

ascend-behind : (n low m : ℕ) (xs : List ℕ) → n + m ≤ 4294967295 → AscendFrom low xs → All (λ d. d < m) xs → AscendFrom (n + low) (map (λ d. n + d) xs)
ascend-behind n low m [] few h below = tt
ascend-behind n low m (x ∷ xs) few h below =
    let next : n + (x + 1) ≡ n + x + 1 = omega arith in (
      omega (arith, h.0),
      omega (arith, All-head (λ d. d < m) x xs below),
      subst (λ k. AscendFrom k (map (λ d. n + d) xs)) next (ascend-behind n (x + 1) m xs few h.2 (All-tail (λ d. d < m) x xs below)),
    )

-- ---- rows

-- a row of so many documents, none of them before the one of a number
pub record IsRowBehind (schema : List FieldFacts) (n count : ℕ) (r : Row) : Type 0 where
  pub row : IsRow schema count r
  pub past : AscendFrom n r.documents

pub row-among_more : (schema : List FieldFacts) (n count : ℕ) (r : Row) → n ≤ count → IsRow schema n r → IsRow schema count r
row-among_more schema n count r le is = record {
  indexed = is.indexed;
  some = is.some;
  ascending = is.ascending;
  below = All-weaker (λ d. d < n) (λ d. d < count) (λ d b. omega (arith, b, le)) r.documents is.below;
  paired = is.paired;
  held = is.held;
  places = is.places;
  no_places = is.no_places;
}

pub row-is_behind : (schema : List FieldFacts) (n m : ℕ) (r : Row) → n + m ≤ 4294967295 → IsRow schema m r → IsRowBehind schema n (n + m) (row_behind n r)
row-is_behind schema n m r few is =
    let long = length-map r.documents (λ d. n + d) in
    let here : n + 0 ≡ n = omega arith in
    let past : AscendFrom n (map (λ d. n + d) r.documents) =
    subst (λ k. AscendFrom k (map (λ d. n + d) r.documents)) here (ascend-behind n 0 m r.documents few is.ascending is.below) in
    record {
      row = record {
        indexed = is.indexed;
        some = omega (arith, long, is.some);
        ascending = ascend-lower 0 n (map (λ d. n + d) r.documents) (omega arith) past;
        below = All-map (λ d. d < n + m) (λ d. n + d) r.documents (All-weaker (λ d. d < m) (λ d. n + d < n + m) (λ d b. omega (arith, b)) r.documents is.below);
        paired = omega (arith, long, is.paired);
        held = is.held;
        places = is.places;
        no_places = is.no_places;
      };
      past = past;
    }

pub row-is_of_both : (schema : List FieldFacts) (n count : ℕ) (r u : Row) → n ≤ count → r.term ≡ u.term → IsRow schema n r → IsRowBehind schema n count u →
    IsRow schema count (row_of_both r u)
row-is_of_both schema n count r u le same is other =
    let keeps : keeps_positions schema u.term.field ≡ keeps_positions schema r.term.field = ap (λ t. keeps_positions schema t.field) (sym same) in
    record {
      indexed = is.indexed;
      some = omega (arith, length-append r.documents u.documents, is.some);
      ascending = ascend-both 0 n r.documents u.documents (omega arith) is.ascending is.below other.past;
      below = All-append (λ d. d < count) r.documents u.documents
          (All-weaker (λ d. d < n) (λ d. d < count) (λ d b. omega (arith, b, le)) r.documents is.below) other.row.below;
      paired = omega (arith, length-append r.documents u.documents, length-append r.frequencies u.frequencies, is.paired, other.row.paired);
      held = All-append (λ f. 0 < f) r.frequencies u.frequencies is.held other.row.held;
      places = λ kept. places-both r.frequencies r.positions u.frequencies u.positions (is.places kept) (other.row.places (keeps ∙ kept));
      no_places = λ none. both_none r.positions u.positions (is.no_places none, other.row.no_places (keeps ∙ none));
    }
  where
    both_none : (ps qs : List ℕ) → (ps ≡ []) × (qs ≡ []) → ps ++ qs ≡ []
    both_none ps qs none = λ i. none.0 i ++ none.1 i

pub row-apart : (schema : List FieldFacts) (n count : ℕ) (r u : Row) → r.term ≡ u.term → IsRow schema n r → IsRow schema count u →
    AreApart r.frequencies r.positions u.positions
row-apart schema n count r u same is other = elim (cases_Bool (keeps_positions schema r.term.field)) [
  | inl kept ↦ inl (is.places kept)
  | inr none ↦ inr (is.no_places none, other.no_places (ap (λ t. keeps_positions schema t.field) (sym same) ∙ none))
]
