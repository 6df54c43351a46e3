-- That the terms of rows ascend.
use Rattle.std.proofs.Common.{◌≡◌, ℕ, ◌+◌, ◌-◌, ◌<◌, ◌≤◌, List, Less, get_or, length, map, ap, sym, ◌∙◌, arith}
use Rattle.std.specs.List.{AllAdjacentBelow}
use Rattle.std.specs.List.Sorted.{IsStrictlySortedBy}
use Rattle.std.proofs.lemmas.List.{get_or-map, length-map}
use Rattle.std.proofs.lemmas.List.Sorted.{all_adjacent_more}
use Rattle.std.proofs.lemmas.Map.Keys.{Less-from_sorted, sorted_from_all_adjacent}
use Rattle.qm_schema.specs.Term.{TermKey, term_cmp, term_cmp_total}
use Rattle.qm_postings.specs.Rows.{Row, no_row}

abbrev pub terms_of_rows : List Row → List TermKey
terms_of_rows rows = map (λ r. r.term) rows

module _ (rows : List Row) (i : ℕ) (before row : Row) (up : 0 < i) (within : i < length rows)
    (is_before : before ≡ get_or rows (i - 1) no_row) (is_row : row ≡ get_or rows i no_row) where
  before-is : (d : TermKey) → get_or (terms_of_rows rows) (i - 1) d ≡ before.term
  before-is d = get_or-map (λ (r : Row). r.term) rows (i - 1) no_row d (omega (arith, up, within)) ∙ ap (λ (r : Row). r.term) (sym is_before)

  row-is : (d : TermKey) → get_or (terms_of_rows rows) i d ≡ row.term
  row-is d = get_or-map (λ (r : Row). r.term) rows i no_row d within ∙ ap (λ (r : Row). r.term) (sym is_row)

  pub ascend-next : term_cmp before.term row.term ≡ Less → AllAdjacentBelow (λ s t. term_cmp s t ≡ Less) (terms_of_rows rows) i →
      AllAdjacentBelow (λ s t. term_cmp s t ≡ Less) (terms_of_rows rows) (i + 1)
  ascend-next less so_far =
      all_adjacent_more (terms_of_rows rows) (λ s t. term_cmp s t ≡ Less) i up so_far (λ d. (λ j. term_cmp (before-is d j) (row-is d j)) ∙ less)

  pub ascends-there : IsStrictlySortedBy term_cmp (terms_of_rows rows) → term_cmp before.term row.term ≡ Less
  ascends-there sorted =
      let d = before.term in
      (λ j. term_cmp (sym (before-is d) j) (sym (row-is d) j))
      ∙ Less-from_sorted term_cmp (terms_of_rows rows) (i - 1) i d sorted (omega (arith, up))
      (omega (arith, within, length-map rows (λ (r : Row). r.term)))

pub ascending : (rows : List Row) (i : ℕ) → length rows ≤ i → AllAdjacentBelow (λ s t. term_cmp s t ≡ Less) (terms_of_rows rows) i →
    IsStrictlySortedBy term_cmp (terms_of_rows rows)
ascending rows i past so_far =
    let n = length-map rows (λ (r : Row). r.term) in
    sorted_from_all_adjacent term_cmp_total (terms_of_rows rows) no_row.term (λ k h. so_far k no_row.term (omega (arith, h, n, past)))
