-- What is left of a row and of rows, one by one.
use Rattle.std.proofs.Common.{◌≡◌, Bool, true, false, ℕ, ◌+◌, ◌<◌, List, [], ◌∷◌, ◌++◌, Option, None, Some, is_some, cond, drop, get_or, length, map, nat_lt, take, ap, sym, ◌∙◌, append_assoc, arith}
use Rattle.std.specs.Option.{option_to_list}
use Rattle.std.specs.List.{range_with_len}
use Rattle.std.specs.Prelude.{filter, slice_index}
use Rattle.std.proofs.lemmas.List.{append-nil, drop_more, map-id, map_more, map_push}
use Rattle.std.proofs.lemmas.List.Elements.{filter-append}
use Rattle.std.proofs.lemmas.List.FromFn.{filter_of_map_range_with_len_more}
use Rattle.qm_postings.specs.Rows.{Row, no_row}
use Rattle.qm_merge.specs.AliveRows.{documents_left, frequencies_left, number_in, row_left, rows_left}

module _ (numbers : List (Option ℕ)) (ds fs : List ℕ) (place : ℕ) (done all : List ℕ) where
  -- a document that has a number
  pub document-more : (d k : ℕ) → place < length ds → d ≡ get_or ds place 0 → number_in numbers d ≡ Some k →
      done ++ documents_left numbers (drop place ds) ≡ all → (done ++ k ∷ []) ++ documents_left numbers (drop (place + 1) ds) ≡ all
  document-more d k within own is so_far =
      append_assoc done (k ∷ []) (documents_left numbers (drop (place + 1) ds))
      ∙ ap (λ o. done ++ (option_to_list o ++ documents_left numbers (drop (place + 1) ds))) (sym (ap (number_in numbers) (sym own) ∙ is))
      ∙ ap (λ l. done ++ documents_left numbers l) (sym (drop_more ds place 0 within)) ∙ so_far

  -- one that has none
  pub document-none : (d : ℕ) → place < length ds → d ≡ get_or ds place 0 → number_in numbers d ≡ None →
      done ++ documents_left numbers (drop place ds) ≡ all → done ++ documents_left numbers (drop (place + 1) ds) ≡ all
  document-none d within own is so_far =
      ap (λ o. done ++ (option_to_list o ++ documents_left numbers (drop (place + 1) ds))) (sym (ap (number_in numbers) (sym own) ∙ is))
      ∙ ap (λ l. done ++ documents_left numbers l) (sym (drop_more ds place 0 within)) ∙ so_far

  frequency-here : place < length ds → place < length fs → frequencies_left numbers (drop place ds) (drop place fs)
      ≡ frequencies_left numbers (get_or ds place 0 ∷ drop (place + 1) ds) (get_or fs place 0 ∷ drop (place + 1) fs)
  frequency-here within inside = λ i. frequencies_left numbers (drop_more ds place 0 within i) (drop_more fs place 0 inside i)

  pub frequency-more : (d f k : ℕ) → place < length ds → place < length fs → d ≡ get_or ds place 0 → f ≡ get_or fs place 0 → number_in numbers d ≡ Some k →
      done ++ frequencies_left numbers (drop place ds) (drop place fs) ≡ all →
      (done ++ f ∷ []) ++ frequencies_left numbers (drop (place + 1) ds) (drop (place + 1) fs) ≡ all
  frequency-more d f k within inside own often is so_far =
      let rest : List ℕ = frequencies_left numbers (drop (place + 1) ds) (drop (place + 1) fs) in
      append_assoc done (f ∷ []) rest
      ∙ (λ i. done ++ (often i ∷ rest))
      ∙ ap (λ o. done ++ cond (is_some o) (get_or fs place 0 ∷ rest) rest) (sym (ap (number_in numbers) (sym own) ∙ is))
      ∙ ap (λ l. done ++ l) (sym (frequency-here within inside)) ∙ so_far

  pub frequency-none : (d : ℕ) → place < length ds → place < length fs → d ≡ get_or ds place 0 → number_in numbers d ≡ None →
      done ++ frequencies_left numbers (drop place ds) (drop place fs) ≡ all →
      done ++ frequencies_left numbers (drop (place + 1) ds) (drop (place + 1) fs) ≡ all
  frequency-none d within inside own is so_far =
      let rest : List ℕ = frequencies_left numbers (drop (place + 1) ds) (drop (place + 1) fs) in
      ap (λ o. done ++ cond (is_some o) (get_or fs place 0 ∷ rest) rest) (sym (ap (number_in numbers) (sym own) ∙ is))
      ∙ ap (λ l. done ++ l) (sym (frequency-here within inside)) ∙ so_far

-- ---- the length ids that are left

numbers-more : (p : ℕ → Bool) (n : ℕ) → filter p (range_with_len 0 (n + 1)) ≡ filter p (range_with_len 0 n) ++ cond (p n) (n ∷ []) []
numbers-more p n =
    ap (filter p) (sym (map-id (range_with_len 0 (n + 1)))) ∙ filter_of_map_range_with_len_more p (λ x. x) 0 n n (omega arith)
    ∙ ap (λ l. filter p l ++ cond (p n) (n ∷ []) []) (map-id (range_with_len 0 n))

module _ (numbers : List (Option ℕ)) (ids : List ℕ) (doc : ℕ) (done : List ℕ)
    (so_far : done ≡ map (slice_index ids) (filter (λ d. is_some (number_in numbers d)) (range_with_len 0 doc))) where
  abbrev has_number : ℕ → Bool
  has_number d = is_some (number_in numbers d)

  pub id-more : (x : ℕ) → x ≡ slice_index ids doc → is_some (number_in numbers doc) ≡ true →
      done ++ x ∷ [] ≡ map (slice_index ids) (filter (λ d. is_some (number_in numbers d)) (range_with_len 0 (doc + 1)))
  id-more x own has_one =
      (λ i. so_far i ++ own i ∷ [])
      ∙ sym (ap (map (slice_index ids)) (numbers-more has_number doc ∙ ap (λ b. filter has_number (range_with_len 0 doc) ++ cond b (doc ∷ []) []) has_one)
      ∙ map_push (slice_index ids) (filter has_number (range_with_len 0 doc)) doc)

  pub id-none : is_some (number_in numbers doc) ≡ false →
      done ≡ map (slice_index ids) (filter (λ d. is_some (number_in numbers d)) (range_with_len 0 (doc + 1)))
  id-none has_none =
      so_far ∙ sym (ap (map (slice_index ids)) (numbers-more has_number doc
      ∙ ap (λ b. filter has_number (range_with_len 0 doc) ++ cond b (doc ∷ []) []) has_none ∙ append-nil (filter has_number (range_with_len 0 doc))))

-- ---- the rows that are left

module _ (numbers : List (Option ℕ)) (rows : List Row) (place : ℕ) (done : List Row) (r z : Row)
    (within : place < length rows) (own : r ≡ get_or rows place no_row) (left : z ≡ row_left numbers r)
    (so_far : done ≡ rows_left numbers (take place rows)) where
  abbrev has_posting : Row → Bool
  has_posting u = nat_lt 0 (length u.documents)

  next-row : rows_left numbers (take (place + 1) rows) ≡ rows_left numbers (take place rows) ++ filter (λ u. nat_lt 0 (length u.documents)) (z ∷ [])
  next-row =
      ap (filter has_posting) (map_more (row_left numbers) rows place no_row within)
      ∙ filter-append has_posting (map (row_left numbers) (take place rows)) (row_left numbers (get_or rows place no_row) ∷ [])
      ∙ ap (λ u. rows_left numbers (take place rows) ++ filter has_posting (u ∷ [])) (sym (left ∙ ap (row_left numbers) own))

  pub row-more : nat_lt 0 (length z.documents) ≡ true → done ++ z ∷ [] ≡ rows_left numbers (take (place + 1) rows)
  row-more some =
      ap (λ l. l ++ z ∷ []) so_far
      ∙ sym (next-row ∙ ap (λ b. rows_left numbers (take place rows) ++ cond b (z ∷ []) []) some)

  pub row-none : nat_lt 0 (length z.documents) ≡ false → done ≡ rows_left numbers (take (place + 1) rows)
  row-none none =
      so_far ∙ sym (next-row ∙ ap (λ b. rows_left numbers (take place rows) ++ cond b (z ∷ []) []) none
      ∙ append-nil (rows_left numbers (take place rows)))
