-- Which documents are deleted is read again as it was written.
use Rattle.std.proofs.Common.{◌≡◌, ℕ, ◌^◌, ◌<◌, ◌≤◌, ◌==◌, true, not, cond, List, [], ◌++◌, length, Option, None, Some, Result, Ok, Err, refl, ap, sym, ◌∙◌, append-nil, arith}
use Rattle.std.specs.Prelude.{nat_lt, ok_or}
use Rattle.std.specs.List.{list_all}
use Rattle.std.proofs.lemmas.Bool.{eq-eqb, le-leb, le-ltb, lt-ltb}
use Rattle.std.proofs.lemmas.List.Elements.{All-weaker}
use Rattle.std.proofs.lemmas.List.Sums.{list_all-from_AllPass}
use Rattle.qm_postings.proofs.NumberedPostings.{ascend_few}
use Rattle.qm_store.specs.Deletions.{AreNumbers, counted_at, deletions_body, deletions_kind, deletions_read, few_at, numbers_in, numbers_within, stored_deletions}
use Rattle.qm_store.specs.Heads.{head_bytes, headed_as}
use Rattle.qm_store.specs.Numbers.{number_at, spelled}
use Rattle.qm_store.specs.RowBytes.{followed_by, gaps, gaps_at}
use Rattle.qm_store.specs.Sealed.{body_in, sealed, told_by}
use Rattle.qm_store.specs.declared.store_error.StoreError.{StoreError}
use Rattle.qm_store.specs.declared.store_error.StoreError.TheVariants.{Damaged, OtherFile}
use Rattle.qm_store.proofs.GapBytes.{gaps-read}
use Rattle.qm_store.proofs.NumberBytes.{number-read}
use Rattle.qm_store.proofs.PiecesRead.{word-read}
use Rattle.qm_store.proofs.SealedRead.{body-sealed}

module _ (key count : ℕ) (numbers : List ℕ) (fits : key < 2 ^ 64) (small : count ≤ 4294967295) (are : AreNumbers count numbers) where
  few : length numbers ≤ count
  few = omega (arith, ascend_few 0 count numbers (omega arith) are.ascending are.within)

  abbrev all_gaps : List ℕ
  all_gaps = gaps 0 numbers

  abbrev then_deleted : ℕ → List ℕ → Option (ℕ × List ℕ)
  then_deleted documents rest = cond (not (documents == count)) None (followed_by (number_at 8 rest) (few_at count))

  abbrev then_documents : ℕ → List ℕ → Option (ℕ × List ℕ)
  then_documents own rest = cond (not (own == key)) None (followed_by (number_at 8 rest) then_deleted)

  counts-read : counted_at key count (deletions_body key count numbers) ≡ Some (length numbers, all_gaps)
  counts-read =
      ap (λ (x : Option (ℕ × List ℕ)). followed_by x then_documents) (word-read key (spelled count ++ (spelled (length numbers) ++ all_gaps)) fits)
      ∙ ap (λ b. cond (not b) None (followed_by (number_at 8 (spelled count ++ (spelled (length numbers) ++ all_gaps))) then_deleted)) (eq-eqb key key refl)
      ∙ ap (λ (x : Option (ℕ × List ℕ)). followed_by x then_deleted) (number-read 8 count (spelled (length numbers) ++ all_gaps) (omega (arith, small)))
      ∙ ap (λ b. cond (not b) None (followed_by (number_at 8 (spelled (length numbers) ++ all_gaps)) (few_at count))) (eq-eqb count count refl)
      ∙ ap (λ (x : Option (ℕ × List ℕ)). followed_by x (few_at count)) (number-read 8 (length numbers) all_gaps (omega (arith, small, few)))
      ∙ ap (λ b. cond b (Some (length numbers, all_gaps)) None) (le-leb (length numbers) count few)

  abbrev then_numbers : ℕ → List ℕ → Option (List ℕ)
  then_numbers deleted rest = followed_by (gaps_at deleted 0 rest) (numbers_within count)

  within : list_all (λ d. nat_lt d count) numbers ≡ true
  within = list_all-from_AllPass (λ d. nat_lt d count) numbers (All-weaker (λ d. d < count) (λ d. nat_lt d count ≡ true) (λ d h. lt-ltb d count h) numbers are.within)

  body-told : numbers_in key count (deletions_body key count numbers) ≡ Some numbers
  body-told =
      ap (λ (x : Option (ℕ × List ℕ)). followed_by x then_numbers) counts-read
      ∙ ap (λ (bs : List ℕ). then_numbers (length numbers) bs) (sym (append-nil all_gaps))
      ∙ ap (λ (x : Option (List ℕ × List ℕ)). followed_by x (numbers_within count)) (gaps-read 0 numbers [] are.ascending)
      ∙ ap (λ b. cond (not b) None (Some numbers)) within

  abbrev front : List ℕ
  front = head_bytes deletions_kind ++ deletions_body key count numbers

  begun : headed_as deletions_kind (sealed key front) ≡ Ok (sealed key front)
  begun = ap (λ b. cond b (Err OtherFile) (Ok (sealed key front))) (le-ltb (length (sealed key front)) 16 (omega arith))

  pub deletions-read : deletions_read key count (stored_deletions key count numbers) ≡ Ok numbers
  deletions-read =
      ap (λ (h : Result (List ℕ) StoreError). told_by (told_by h (body_in key)) (numbers_in key count)) begun
      ∙ ap (λ (o : Option (List ℕ)). told_by (ok_or o Damaged) (numbers_in key count)) (body-sealed key front (omega arith))
      ∙ ap (λ o. ok_or o Damaged) body-told
