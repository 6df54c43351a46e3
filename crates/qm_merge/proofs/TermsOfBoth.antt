-- The rows of two segments, joined: they are rows, their terms ascend, and they say what those of both do.
use Rattle.std.proofs.Common.{◌≡◌, ◌==◌, ℕ, ◌+◌, ◌<◌, ◌≤◌, false, List, [], ◌∷◌, Option, Some, None, refl, ap, subst, sym, ◌∙◌, arith}
use Rattle.std.specs.List.{AllByRecursion}
use Rattle.std.specs.List.Sorted.{IsStrictlySortedBy}
use Rattle.std.specs.Option.{option_or}
use Rattle.std.specs.Ordering.{match_ordering, ordering_reverse}
use Rattle.std.specs.Prelude.{All}
use Rattle.std.specs.declared.cmp.Ordering.{Ordering}
use Rattle.std.specs.declared.cmp.Ordering.TheVariants.{Less, Equal, Greater}
use Rattle.std.proofs.lemmas.Bool.{ne_eqb}
use Rattle.std.proofs.lemmas.List.Elements.{All-cons, All-head, All-nil, All-tail, All-weaker}
use Rattle.qm_schema.specs.Schema.{FieldFacts}
use Rattle.qm_schema.specs.Term.{TermKey, term_cmp, term_cmp_antisymmetric, term_cmp_total}
use Rattle.qm_postings.specs.Kept.{posted_together}
use Rattle.qm_postings.specs.Rows.{IsRow, Row, posted}
use Rattle.qm_postings.specs.Segment.{AscendFrom, Occurrences}
use Rattle.qm_postings.proofs.FoundTerms.{found_in, found_in-both}
use Rattle.qm_postings.proofs.RowTerms.{terms_of_rows}
use Rattle.qm_merge.specs.JoinedRows.{joined_rows, row_of_both, with_row}
use Rattle.qm_merge.proofs.FoundInRows.{found-elsewhere, found-row, found_among}
use Rattle.qm_merge.proofs.RowsOfBoth.{IsRowBehind, row-among_more, row-apart, row-is_of_both, together-both}

-- a term comes before those of some rows
abbrev pub IsBefore : TermKey → List Row → Type 0
IsBefore t rows = AllByRecursion (λ u. term_cmp t u ≡ Less) (terms_of_rows rows)

abbrev pub Ascend : List Row → Type 0
Ascend rows = IsStrictlySortedBy term_cmp (terms_of_rows rows)

pub first-before : (r : Row) (rows : List Row) → Ascend (r ∷ rows) → IsBefore r.term rows
unfolding IsStrictlySortedBy
first-before r rows ascend = ascend.0

pub others-ascend : (r : Row) (rows : List Row) → Ascend (r ∷ rows) → Ascend rows
unfolding IsStrictlySortedBy
others-ascend r rows ascend = ascend.1

pub one-more : (r : Row) (rows : List Row) → IsBefore r.term rows → Ascend rows → Ascend (r ∷ rows)
unfolding IsStrictlySortedBy
one-more r rows before ascend = (before, ascend)

pub none-ascend : Ascend []
unfolding IsStrictlySortedBy
none-ascend = tt

before-those : (t u : TermKey) (rows : List Row) → term_cmp t u ≡ Less → IsBefore u rows → IsBefore t rows
before-those t u [] less before = tt
before-those t u (r ∷ rows) less before = (term_cmp_total.trans t u r.term less before.0, before-those t u rows less before.1)

either-none : (o : Option Occurrences) → option_or o None ≡ o
either-none None = refl
either-none (Some o) = refl

-- Rows zs are those of rs, of documents below n, and of us, of documents from n on.
pub record AreOfBoth (schema : List FieldFacts) (n count : ℕ) (rs us zs : List Row) : Type 0 where
  pub low : (d : ℕ) (t : TermKey) → d < n → found_among d t zs ≡ found_among d t rs
  pub high : (d : ℕ) (t : TermKey) → n ≤ d → found_among d t zs ≡ found_among d t us
  pub before : (t : TermKey) → IsBefore t rs → IsBefore t us → IsBefore t zs
  pub each : All (IsRow schema count) zs
  pub ascend : Ascend zs

module _ (schema : List FieldFacts) (n count : ℕ) (within : n ≤ count) where
  -- ---- a row says nothing of documents that are the other's

  others-low : (low d : ℕ) (xs : List ℕ) → d < low → AscendFrom low xs → All (λ x. (x == d) ≡ false) xs
  others-low low d [] less ascend = All-nil (λ x. (x == d) ≡ false)
  others-low low d (x ∷ xs) less ascend = All-cons (λ x. (x == d) ≡ false) x xs
      (ne_eqb x d (λ e. absurd (omega (arith, e, ascend.0, less)))) (others-low (x + 1) d xs (omega (arith, ascend.0, less)) ascend.2)

  behind-low : (d : ℕ) (t : TermKey) (u : Row) → d < n → IsRowBehind schema n count u → found_in d t (posted u) ≡ None
  behind-low d t u less is = found-elsewhere d t u.term u.documents u.frequencies u.positions (others-low n d u.documents less is.past)

  front-high : (d : ℕ) (t : TermKey) (r : Row) → n ≤ d → IsRow schema n r → found_in d t (posted r) ≡ None
  front-high d t r past is = found-elsewhere d t r.term r.documents r.frequencies r.positions
      (All-weaker (λ x. x < n) (λ x. (x == d) ≡ false) (λ x below. ne_eqb x d (λ e. absurd (omega (arith, e, below, past)))) r.documents is.below)

  both-found : (d : ℕ) (t : TermKey) (r u : Row) → r.term ≡ u.term → IsRow schema n r → IsRowBehind schema n count u →
      found_in d t (posted (row_of_both r u)) ≡ option_or (found_in d t (posted r)) (found_in d t (posted u))
  both-found d t r u same is other =
      ap (found_in d t) (together-both r.term r.documents r.frequencies r.positions u.documents u.frequencies u.positions is.paired (row-apart schema n count r u same is other.row))
      ∙ found_in-both d t (posted r) (posted_together r.term u.documents u.frequencies u.positions)
      ∙ ap (λ s. option_or (found_in d t (posted r)) (found_in d t (posted_together s u.documents u.frequencies u.positions))) same

  -- ---- one row more

  of-first : (r : Row) (rs us zs : List Row) → IsRow schema n r → IsBefore r.term rs → IsBefore r.term us → AreOfBoth schema n count rs us zs → AreOfBoth schema n count (r ∷ rs) us (r ∷ zs)
  of-first r rs us zs is before_rs before_us are = record {
    low = λ d t less. found-row d t r zs ∙ ap (option_or (found_in d t (posted r))) (are.low d t less) ∙ sym (found-row d t r rs);
    high = λ d t past. found-row d t r zs ∙ ap (λ o. option_or o (found_among d t zs)) (front-high d t r past is) ∙ are.high d t past;
    before = λ t rs_are us_are. (rs_are.0, are.before t rs_are.1 us_are);
    each = All-cons (IsRow schema count) r zs (row-among_more schema n count r within is) are.each;
    ascend = one-more r zs (are.before r.term before_rs before_us) are.ascend;
  }

  of-second : (u : Row) (rs us zs : List Row) → IsRowBehind schema n count u → IsBefore u.term rs → IsBefore u.term us → AreOfBoth schema n count rs us zs → AreOfBoth schema n count rs (u ∷ us) (u ∷ zs)
  of-second u rs us zs is before_rs before_us are = record {
    low = λ d t less. found-row d t u zs ∙ ap (λ o. option_or o (found_among d t zs)) (behind-low d t u less is) ∙ are.low d t less;
    high = λ d t past. found-row d t u zs ∙ ap (option_or (found_in d t (posted u))) (are.high d t past) ∙ sym (found-row d t u us);
    before = λ t rs_are us_are. (us_are.0, are.before t rs_are us_are.1);
    each = All-cons (IsRow schema count) u zs is.row are.each;
    ascend = one-more u zs (are.before u.term before_rs before_us) are.ascend;
  }

  of-both : (r u : Row) (rs us zs : List Row) → r.term ≡ u.term → IsRow schema n r → IsRowBehind schema n count u → IsBefore r.term rs → IsBefore u.term us →
      AreOfBoth schema n count rs us zs → AreOfBoth schema n count (r ∷ rs) (u ∷ us) (row_of_both r u ∷ zs)
  of-both r u rs us zs same is other before_rs before_us are = record {
    low = λ d t less. found-row d t (row_of_both r u) zs
        ∙ (λ i. option_or ((both-found d t r u same is other ∙ ap (option_or (found_in d t (posted r))) (behind-low d t u less other) ∙ either-none (found_in d t (posted r))) i)
        (are.low d t less i))
        ∙ sym (found-row d t r rs);
    high = λ d t past. found-row d t (row_of_both r u) zs
        ∙ (λ i. option_or ((both-found d t r u same is other ∙ ap (λ o. option_or o (found_in d t (posted u))) (front-high d t r past is)) i) (are.high d t past i))
        ∙ sym (found-row d t u us);
    before = λ t rs_are us_are. (rs_are.0, are.before t rs_are.1 us_are.1);
    each = All-cons (IsRow schema count) (row_of_both r u) zs (row-is_of_both schema n count r u within same is other) are.each;
    ascend = one-more (row_of_both r u) zs (are.before r.term before_rs (subst (λ t. IsBefore t us) (sym same) before_us)) are.ascend;
  }

  -- ---- one list alone

  none-low : (d : ℕ) (t : TermKey) (us : List Row) → d < n → All (IsRowBehind schema n count) us → found_among d t us ≡ None
  none-low d t [] less are = refl
  none-low d t (u ∷ us) less are = found-row d t u us
      ∙ ap (λ o. option_or o (found_among d t us)) (behind-low d t u less (All-head (IsRowBehind schema n count) u us are))
      ∙ none-low d t us less (All-tail (IsRowBehind schema n count) u us are)

  second-alone : (us : List Row) → Ascend us → All (IsRowBehind schema n count) us → AreOfBoth schema n count [] us us
  second-alone us ascend are = record {
    low = λ d t less. none-low d t us less are;
    high = λ d t past. refl;
    before = λ t rs_are us_are. us_are;
    each = All-weaker (IsRowBehind schema n count) (IsRow schema count) (λ u is. is.row) us are;
    ascend = ascend;
  }

  first-alone : (rs : List Row) → Ascend rs → All (IsRow schema n) rs → AreOfBoth schema n count rs [] rs
  first-alone [] ascend are = second-alone [] none-ascend (All-nil (IsRowBehind schema n count))
  first-alone (r ∷ rs) ascend are =
      of-first r rs [] rs (All-head (IsRow schema n) r rs are) (first-before r rs ascend) tt
      (first-alone rs (others-ascend r rs ascend) (All-tail (IsRow schema n) r rs are))

  -- ---- the lists of both

  -- what holds of some rows of the first, with those of the second
  abbrev Joins : List Row → Type 0
  Joins rs = (us : List Row) → Ascend us → All (IsRowBehind schema n count) us → AreOfBoth schema n count rs us (joined_rows rs us)

  module _ (r : Row) (rs : List Row) (is : IsRow schema n r) (ascend_rs : Ascend (r ∷ rs)) (are_rs : All (IsRow schema n) (r ∷ rs)) (rest : Joins rs) where
    one-step : (u : Row) (us : List Row) → IsRowBehind schema n count u → Ascend (u ∷ us) → All (IsRowBehind schema n count) (u ∷ us) →
        AreOfBoth schema n count (r ∷ rs) us (with_row r rs (joined_rows rs) us) → (o : Ordering) → term_cmp r.term u.term ≡ o →
        AreOfBoth schema n count (r ∷ rs) (u ∷ us)
        (match_ordering o (r ∷ joined_rows rs (u ∷ us)) (row_of_both r u ∷ joined_rows rs us) (u ∷ with_row r rs (joined_rows rs) us))
    one-step u us other ascend_us are_us later Less less =
        of-first r rs (u ∷ us) (joined_rows rs (u ∷ us)) is (first-before r rs ascend_rs)
        (less, before-those r.term u.term us less (first-before u us ascend_us)) (rest (u ∷ us) ascend_us are_us)
    one-step u us other ascend_us are_us later Equal same =
        of-both r u rs us (joined_rows rs us) (term_cmp_antisymmetric r.term u.term same) is other (first-before r rs ascend_rs) (first-before u us ascend_us)
        (rest us (others-ascend u us ascend_us) (All-tail (IsRowBehind schema n count) u us are_us))
    one-step u us other ascend_us are_us later Greater greater =
        let less : term_cmp u.term r.term ≡ Less = term_cmp_total.antisymm u.term r.term ∙ ap ordering_reverse greater in
        of-second u (r ∷ rs) us (with_row r rs (joined_rows rs) us) other (less, before-those u.term r.term rs less (first-before r rs ascend_rs))
        (first-before u us ascend_us) later

    with-first : (us : List Row) → Ascend us → All (IsRowBehind schema n count) us → AreOfBoth schema n count (r ∷ rs) us (with_row r rs (joined_rows rs) us)
    with-first [] ascend_us are_us = first-alone (r ∷ rs) ascend_rs are_rs
    with-first (u ∷ us) ascend_us are_us =
        one-step u us (All-head (IsRowBehind schema n count) u us are_us) ascend_us are_us
        (with-first us (others-ascend u us ascend_us) (All-tail (IsRowBehind schema n count) u us are_us)) (term_cmp r.term u.term) refl

  pub rows-of_both : (rs us : List Row) → Ascend rs → All (IsRow schema n) rs → Ascend us → All (IsRowBehind schema n count) us → AreOfBoth schema n count rs us (joined_rows rs us)
  rows-of_both [] us ascend_rs are_rs ascend_us are_us = second-alone us ascend_us are_us
  rows-of_both (r ∷ rs) us ascend_rs are_rs ascend_us are_us =
      with-first r rs (All-head (IsRow schema n) r rs are_rs) ascend_rs are_rs
      (λ others ascend are. rows-of_both rs others (others-ascend r rs ascend_rs) (All-tail (IsRow schema n) r rs are_rs) ascend are)
      us ascend_us are_us
