-- Rows of which the postings are left that have a new number.
use Rattle.std.proofs.Common.{◌≡◌, ◌==◌, ℕ, ◌+◌, ◌<◌, ◌≤◌, Bool, true, false, cond, List, [], ◌∷◌, ◌++◌, ◌⊎◌, drop, take, length, Option, Some, None, is_some, refl, ap, subst, sym, ◌∙◌, arith, inl, inr}
use Rattle.std.specs.Option.{option_or, option_to_list}
use Rattle.std.specs.Prelude.{All}
use Rattle.std.proofs.lemmas.Bool.{cases_Bool, cases_eq, cases_lt, eq-eqb, le-ltb, lt-ltb, ne_eqb}
use Rattle.std.proofs.lemmas.List.{drop_at, nil_from_length, take_at}
use Rattle.std.proofs.lemmas.List.Elements.{All-cons, All-head, All-nil, All-tail}
use Rattle.qm_schema.specs.Schema.{FieldFacts}
use Rattle.qm_schema.specs.Term.{TermKey}
use Rattle.qm_postings.specs.Kept.{posted_together}
use Rattle.qm_postings.specs.Rows.{ArePlaces, IsRow, Row, posted}
use Rattle.qm_postings.specs.Segment.{AscendFrom, keeps_positions}
use Rattle.qm_postings.proofs.ArrayEntries.{drop-nil, take-nil}
use Rattle.qm_postings.proofs.FoundTerms.{found_in}
use Rattle.qm_merge.specs.AliveRows.{documents_left, frequencies_left, number_in, positions_left, row_left, rows_left}
use Rattle.qm_merge.proofs.AlivePlaces.{rank, rank-next, rank-rises}
use Rattle.qm_merge.proofs.FoundInRows.{found-alike, found-past, found-row, found_among}
use Rattle.qm_merge.proofs.RowsOfBoth.{ascend-lower}
use Rattle.qm_merge.proofs.TermsOfBoth.{IsBefore, Ascend, first-before, none-ascend, one-more, others-ascend}

-- where there are no positions, none are left
pub none-left : (numbers : List (Option ℕ)) (ds fs : List ℕ) → positions_left numbers ds fs [] ≡ []
none-left numbers [] fs = refl
none-left numbers (d ∷ ds) [] = refl
none-left numbers (d ∷ ds) (f ∷ fs) =
    let rest : positions_left numbers ds fs (drop f []) ≡ [] = ap (positions_left numbers ds fs) (drop-nil f) ∙ none-left numbers ds fs in
    (λ i. cond (is_some (number_in numbers d)) (take-nil f i ++ rest i) (rest i)) ∙ either (is_some (number_in numbers d))
  where
    either : (b : Bool) → cond b (let l : List ℕ = [] in l) [] ≡ []
    either true = refl
    either false = refl

-- each posting has its positions, or there are none at all
abbrev ArePlaced : List ℕ → List ℕ → Type 0
ArePlaced fs ps = ArePlaces fs ps ⊎ (ps ≡ [])

placed-rest : (f : ℕ) (fs ps : List ℕ) → ArePlaced (f ∷ fs) ps → ArePlaced fs (drop f ps)
placed-rest f fs ps (inl are) = inl are.2
placed-rest f fs ps (inr none) = inr (ap (drop f) none ∙ drop-nil f)

-- A table of new numbers: those of the documents that pass a test, each with how many of them stand before it, below a
-- count.
pub record AreNumbers (numbers : List (Option ℕ)) (has : ℕ → Bool) (count : ℕ) : Type 0 where
  pub passes : (d k : ℕ) → number_in numbers d ≡ Some k → has d ≡ true
  pub place : (d k : ℕ) → number_in numbers d ≡ Some k → k ≡ rank has d
  pub below : (d k : ℕ) → number_in numbers d ≡ Some k → k < count

-- Rows zs are what is left of some rows.
pub record AreLeft (numbers : List (Option ℕ)) (schema : List FieldFacts) (count : ℕ) (rows zs : List Row) : Type 0 where
  pub found : (e a : ℕ) (t : TermKey) → number_in numbers a ≡ Some e → found_among e t zs ≡ found_among a t rows
  pub before : (t : TermKey) → IsBefore t rows → IsBefore t zs
  pub each : All (IsRow schema count) zs
  pub ascend : Ascend zs

module _ (numbers : List (Option ℕ)) (has : ℕ → Bool) (count : ℕ) (are : AreNumbers numbers has count) (few : count ≤ 2147483647) where
  -- ---- what is left of a row is a row

  left-ascend : (low : ℕ) (ds : List ℕ) → AscendFrom low ds → AscendFrom (rank has low) (documents_left numbers ds)
  left-ascend low [] ascend = tt
  left-ascend low (d ∷ ds) ascend = go (number_in numbers d) refl (left-ascend (d + 1) ds ascend.2)
    where
      go : (o : Option ℕ) → number_in numbers d ≡ o → AscendFrom (rank has (d + 1)) (documents_left numbers ds) → AscendFrom (rank has low) (option_to_list o ++ documents_left numbers ds)
      go None is rest = ascend-lower (rank has low) (rank has (d + 1)) (documents_left numbers ds) (rank-rises has low (d + 1) (omega (arith, ascend.0))) rest
      go (Some k) is rest =
          let own : k ≡ rank has d = are.place d k is in (
            omega (arith, own, rank-rises has low d ascend.0),
            omega (arith, few, are.below d k is),
            ascend-lower (k + 1) (rank has (d + 1)) (documents_left numbers ds) (omega (arith, own, rank-next has d (are.passes d k is))) rest,
          )

  left-below : (ds : List ℕ) → All (λ k. k < count) (documents_left numbers ds)
  left-below [] = All-nil (λ k. k < count)
  left-below (d ∷ ds) = go (number_in numbers d) refl (left-below ds)
    where
      go : (o : Option ℕ) → number_in numbers d ≡ o → All (λ k. k < count) (documents_left numbers ds) → All (λ k. k < count) (option_to_list o ++ documents_left numbers ds)
      go None is rest = rest
      go (Some k) is rest = All-cons (λ k. k < count) k (documents_left numbers ds) (are.below d k is) rest

  left-paired : (ds fs : List ℕ) → length fs ≡ length ds → length (frequencies_left numbers ds fs) ≡ length (documents_left numbers ds)
  left-paired [] fs paired = refl
  left-paired (d ∷ ds) [] paired = absurd (omega (arith, paired))
  left-paired (d ∷ ds) (f ∷ fs) paired = go (number_in numbers d) (left-paired ds fs (omega (arith, paired)))
    where
      go : (o : Option ℕ) → length (frequencies_left numbers ds fs) ≡ length (documents_left numbers ds) → length (cond (is_some o) (f ∷ frequencies_left numbers ds fs) (frequencies_left numbers ds fs))
          ≡ length (option_to_list o ++ documents_left numbers ds)
      go None rest = rest
      go (Some k) rest = omega (arith, rest)

  left-held : (ds fs : List ℕ) → All (λ f. 0 < f) fs → All (λ f. 0 < f) (frequencies_left numbers ds fs)
  left-held [] fs held = All-nil (λ f. 0 < f)
  left-held (d ∷ ds) [] held = All-nil (λ f. 0 < f)
  left-held (d ∷ ds) (f ∷ fs) held = go (is_some (number_in numbers d)) (left-held ds fs (All-tail (λ f. 0 < f) f fs held))
    where
      go : (b : Bool) → All (λ f. 0 < f) (frequencies_left numbers ds fs) → All (λ f. 0 < f) (cond b (f ∷ frequencies_left numbers ds fs) (frequencies_left numbers ds fs))
      go true rest = All-cons (λ f. 0 < f) f (frequencies_left numbers ds fs) (All-head (λ f. 0 < f) f fs held) rest
      go false rest = rest

  left-places : (ds fs ps : List ℕ) → length fs ≡ length ds → ArePlaces fs ps → ArePlaces (frequencies_left numbers ds fs) (positions_left numbers ds fs ps)
  left-places [] fs ps paired places = refl
  left-places (d ∷ ds) [] ps paired places = absurd (omega (arith, paired))
  left-places (d ∷ ds) (f ∷ fs) ps paired places = go (is_some (number_in numbers d)) (left-places ds fs (drop f ps) (omega (arith, paired)) places.2)
    where
      own : take f (take f ps ++ positions_left numbers ds fs (drop f ps)) ≡ take f ps
      own = take_at (take f ps) (positions_left numbers ds fs (drop f ps)) f places.0

      go : (b : Bool) → ArePlaces (frequencies_left numbers ds fs) (positions_left numbers ds fs (drop f ps)) → ArePlaces (cond b (f ∷ frequencies_left numbers ds fs) (frequencies_left numbers ds fs))
          (cond b (take f ps ++ positions_left numbers ds fs (drop f ps)) (positions_left numbers ds fs (drop f ps)))
      go true rest = (
        ap length own ∙ places.0,
        subst (AscendFrom 0) (sym own) places.1,
        subst (ArePlaces (frequencies_left numbers ds fs)) (sym (drop_at (take f ps) (positions_left numbers ds fs (drop f ps)) f places.0)) rest,
      )
      go false rest = rest

  pub row-is_left : (schema : List FieldFacts) (n : ℕ) (r : Row) → IsRow schema n r → 0 < length (documents_left numbers r.documents) →
      IsRow schema count (row_left numbers r)
  row-is_left schema n r is some = record {
    indexed = is.indexed;
    some = some;
    ascending = ascend-lower 0 (rank has 0) (documents_left numbers r.documents) (omega arith) (left-ascend 0 r.documents is.ascending);
    below = left-below r.documents;
    paired = left-paired r.documents r.frequencies is.paired;
    held = left-held r.documents r.frequencies is.held;
    places = λ kept. left-places r.documents r.frequencies r.positions is.paired (is.places kept);
    no_places = λ none. ap (positions_left numbers r.documents r.frequencies) (is.no_places none) ∙ none-left numbers r.documents r.frequencies;
  }

  -- ---- what it says of a document

  module _ (e a : ℕ) (is_number : number_in numbers a ≡ Some e) where
    same-number : (d k : ℕ) → number_in numbers d ≡ Some k → (k == e) ≡ (d == a)
    same-number d k is = elim (cases_eq d a) [
      | inl same ↦
          let both : Some k ≡ Some e = sym is ∙ ap (number_in numbers) same ∙ is_number in
          let equal : k ≡ e = cc in
          eq-eqb k e equal ∙ sym (eq-eqb d a same)
      | inr other ↦
          let own : k ≡ rank has d = are.place d k is in
          let its : e ≡ rank has a = are.place a e is_number in
          let apart : k ≡ e → ⊥ = λ equal. elim (cases_lt d a) [
            | inl before ↦ omega (arith, equal, own, its, rank-next has d (are.passes d k is), rank-rises has (d + 1) a (omega (arith, before)))
            | inr behind ↦ omega (arith, equal, own, its, rank-next has a (are.passes a e is_number), rank-rises has (a + 1) d (omega (arith, behind, other)))
          ] in
          ne_eqb k e apart ∙ sym (ne_eqb d a other)
    ]

    not-numbered : (d : ℕ) → number_in numbers d ≡ None → (d == a) ≡ false
    not-numbered d is = ne_eqb d a (λ same. absurd (let both : None ≡ Some e = sym is ∙ ap (number_in numbers) same ∙ is_number in cc))

    found-left : (t u : TermKey) (ds fs ps : List ℕ) → length fs ≡ length ds → ArePlaced fs ps →
        found_in e t (posted_together u (documents_left numbers ds) (frequencies_left numbers ds fs) (positions_left numbers ds fs ps))
        ≡ found_in a t (posted_together u ds fs ps)
    found-left t u [] fs ps paired placed = refl
    found-left t u (d ∷ ds) [] ps paired placed = absurd (omega (arith, paired))
    found-left t u (d ∷ ds) (f ∷ fs) ps paired placed =
        go (number_in numbers d) refl (found-left t u ds fs (drop f ps) (omega (arith, paired)) (placed-rest f fs ps placed))
      where
        seam : ArePlaced (f ∷ fs) ps → (take f (take f ps ++ positions_left numbers ds fs (drop f ps)) ≡ take f ps)
            × (drop f (take f ps ++ positions_left numbers ds fs (drop f ps)) ≡ positions_left numbers ds fs (drop f ps))
        seam (inl places) = (
          take_at (take f ps) (positions_left numbers ds fs (drop f ps)) f places.0,
          drop_at (take f ps) (positions_left numbers ds fs (drop f ps)) f places.0,
        )
        seam (inr none) =
            let own : take f ps ≡ [] = ap (take f) none ∙ take-nil f in
            let others : positions_left numbers ds fs (drop f ps) ≡ [] = ap (positions_left numbers ds fs) (ap (drop f) none ∙ drop-nil f) ∙ none-left numbers ds fs in (
              (λ i. take f (own i ++ others i)) ∙ take-nil f ∙ sym own,
              (λ i. drop f (own i ++ others i)) ∙ drop-nil f ∙ sym others,
            )

        go : (o : Option ℕ) → number_in numbers d ≡ o →
            found_in e t (posted_together u (documents_left numbers ds) (frequencies_left numbers ds fs) (positions_left numbers ds fs (drop f ps)))
            ≡ found_in a t (posted_together u ds fs (drop f ps)) →
            found_in e t (posted_together u (option_to_list o ++ documents_left numbers ds)
            (cond (is_some o) (f ∷ frequencies_left numbers ds fs) (frequencies_left numbers ds fs))
            (cond (is_some o) (take f ps ++ positions_left numbers ds fs (drop f ps)) (positions_left numbers ds fs (drop f ps))))
            ≡ found_in a t (posted_together u (d ∷ ds) (f ∷ fs) ps)
        go None is rest = found-past e a t (record { term = u; document = d; frequency = f; positions = take f ps })
            (posted_together u (documents_left numbers ds) (frequencies_left numbers ds fs) (positions_left numbers ds fs (drop f ps)))
            (posted_together u ds fs (drop f ps)) (not-numbered d is) rest
        go (Some k) is rest =
            let seams = seam placed in
            found-alike e a t
            (record { term = u; document = k; frequency = f; positions = take f (take f ps ++ positions_left numbers ds fs (drop f ps)) })
            (record { term = u; document = d; frequency = f; positions = take f ps })
            (posted_together u (documents_left numbers ds) (frequencies_left numbers ds fs) (drop f (take f ps ++ positions_left numbers ds fs (drop f ps))))
            (posted_together u ds fs (drop f ps))
            (λ i. (u, record { frequency = f; positions = seams.0 i }))
            (same-number d k is)
            (ap (λ l. found_in e t (posted_together u (documents_left numbers ds) (frequencies_left numbers ds fs) l)) seams.1 ∙ rest)

  -- ---- rows

  module _ (schema : List FieldFacts) (n : ℕ) where
    placed-row : (r : Row) → IsRow schema n r → ArePlaced r.frequencies r.positions
    placed-row r is = elim (cases_Bool (keeps_positions schema r.term.field)) [ inl kept ↦ inl (is.places kept) | inr none ↦ inr (is.no_places none) ]

    found-of_row : (r : Row) → IsRow schema n r → (e a : ℕ) (t : TermKey) → number_in numbers a ≡ Some e →
        found_in e t (posted (row_left numbers r)) ≡ found_in a t (posted r)
    found-of_row r is e a t is_number = found-left e a is_number t r.term r.documents r.frequencies r.positions is.paired (placed-row r is)

    module _ (r : Row) (rows : List Row) (is : IsRow schema n r) (ascend : Ascend (r ∷ rows)) (rest : AreLeft numbers schema count rows (rows_left numbers rows)) where
      one-kept : 0 < length (documents_left numbers r.documents) → AreLeft numbers schema count (r ∷ rows) (row_left numbers r ∷ rows_left numbers rows)
      one-kept some = record {
        found = λ e a t is_number. found-row e t (row_left numbers r) (rows_left numbers rows)
            ∙ (λ i. option_or (found-of_row r is e a t is_number i) (rest.found e a t is_number i)) ∙ sym (found-row a t r rows);
        before = λ t before. (before.0, rest.before t before.1);
        each = All-cons (IsRow schema count) (row_left numbers r) (rows_left numbers rows) (row-is_left schema n r is some) rest.each;
        ascend = one-more (row_left numbers r) (rows_left numbers rows) (rest.before r.term (first-before r rows ascend)) rest.ascend;
      }

      one-gone : length (documents_left numbers r.documents) ≤ 0 → AreLeft numbers schema count (r ∷ rows) (rows_left numbers rows)
      one-gone none =
          let empty : documents_left numbers r.documents ≡ [] = nil_from_length (documents_left numbers r.documents) (omega arith) in record {
            found = λ e a t is_number. rest.found e a t is_number
                ∙ sym (found-row a t r rows ∙ ap (λ o. option_or o (found_among a t rows)) (sym (found-of_row r is e a t is_number)
                ∙ ap (λ ds. found_in e t (posted_together r.term ds (frequencies_left numbers r.documents r.frequencies) (positions_left numbers r.documents r.frequencies r.positions))) empty));
            before = λ t before. rest.before t before.1;
            each = rest.each;
            ascend = rest.ascend;
          }

    pub rows-are_left : (rows : List Row) → Ascend rows → All (IsRow schema n) rows → AreLeft numbers schema count rows (rows_left numbers rows)
    rows-are_left [] ascend are_rows = record {
      found = λ e a t is. refl;
      before = λ t before. tt;
      each = All-nil (IsRow schema count);
      ascend = none-ascend;
    }
    rows-are_left (r ∷ rows) ascend are_rows =
        let many : ℕ = length (documents_left numbers r.documents) in
        let is = All-head (IsRow schema n) r rows are_rows in
        let rest = rows-are_left rows (others-ascend r rows ascend) (All-tail (IsRow schema n) r rows are_rows) in
        elim (cases_lt 0 (length (documents_left numbers r.documents))) [
          | inl some ↦ subst (λ b. AreLeft numbers schema count (r ∷ rows) (cond b (row_left numbers r ∷ rows_left numbers rows) (rows_left numbers rows)))
              (sym (lt-ltb 0 many some)) (one-kept r rows is ascend rest some)
          | inr none ↦ subst (λ b. AreLeft numbers schema count (r ∷ rows) (cond b (row_left numbers r ∷ rows_left numbers rows) (rows_left numbers rows)))
              (sym (le-ltb 0 many none)) (one-gone r rows is ascend rest none)
        ]
