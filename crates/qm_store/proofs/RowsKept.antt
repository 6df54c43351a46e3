-- A row that was written is kept: with its positions where its field keeps them, or without.
use Rattle.std.proofs.Common.{◌≡◌, ℕ, ◌≤◌, Bool, true, false, cond, List, [], length, Option, None, Some, refl, ap, sym, ◌∙◌, append-nil, arith}
use Rattle.std.specs.Prelude.{nat_le}
use Rattle.std.proofs.lemmas.Bool.{le-leb}
use Rattle.qm_postings.specs.Rows.{IsRow, Row}
use Rattle.qm_postings.specs.Segment.{keeps_positions}
use Rattle.qm_schema.specs.Schema.{FieldFacts}
use Rattle.qm_store.specs.RowBytes.{Postings, followed_by, placed_at, postings_at, postings_bytes, postings_part, row_at, row_bytes}
use Rattle.qm_store.specs.Stored.{IsStorable, with_places}
use Rattle.qm_store.proofs.NumberBytes.{number-read}
use Rattle.qm_store.proofs.RowsFound.{read_as}
use Rattle.qm_store.proofs.RowsRead.{ascend-length, postings-bytes, postings-read, row-read}

-- without its positions
unplaced-read : (schema : List FieldFacts) (count : ℕ) (r : Row) → IsRow schema count r → IsStorable r →
    row_at r.term false (postings_part r) ≡ Some (with_places false r)
unfolding postings_part
unplaced-read schema count r is fit =
    let postings = postings_bytes 0 r.documents r.frequencies in
    let n = length r.documents in
    let many = ascend-length 0 r.documents is.ascending (omega arith) in
    let enough : n ≤ length postings = omega (arith, postings-bytes 0 r.documents r.frequencies is.paired) in
    ap (λ (x : Option (ℕ × List ℕ)). followed_by x then_postings) (number-read 8 n postings (omega (arith, many)))
    ∙ ap (λ b. cond b (followed_by (postings_at n 0 postings) (placed_at r.term false)) None) (le-leb n (length postings) enough)
    ∙ ap (λ (l : List ℕ). followed_by (postings_at n 0 l) (placed_at r.term false)) (sym (append-nil postings))
    ∙ ap (λ (x : Option Postings). followed_by x (placed_at r.term false)) (postings-read 0 r.documents r.frequencies [] is.ascending is.paired fit.frequencies)
  where
    then_postings : ℕ → List ℕ → Option Row
    then_postings n rest = cond (nat_le n (length rest)) (followed_by (postings_at n 0 rest) (placed_at r.term false)) None

pub row-kept : (schema : List FieldFacts) (count : ℕ) (placed : Bool) (r : Row) → IsRow schema count r → IsStorable r →
    (placed ≡ true → keeps_positions schema r.term.field ≡ true) → read_as placed r.term r ≡ Some (with_places placed r)
row-kept schema count false r is fit keeps = unplaced-read schema count r is fit
row-kept schema count true r is fit keeps =
    ap (λ b. row_at r.term b (row_bytes r)) (sym (keeps refl)) ∙ row-read schema count r is fit.frequencies

-- a row of a field that keeps no positions has none, so it is whole without them
whole : (schema : List FieldFacts) (count : ℕ) (r : Row) → IsRow schema count r → with_places (keeps_positions schema r.term.field) r ≡ r
whole schema count r is = by_field (keeps_positions schema r.term.field) is.no_places
  where
    by_field : (b : Bool) → (b ≡ false → r.positions ≡ []) → with_places b r ≡ r
    by_field true none = refl
    by_field false none = λ i. record r { positions = sym (none refl) i }

-- so it is read as it was
pub row-whole : (schema : List FieldFacts) (count : ℕ) (r : Row) → IsRow schema count r → IsStorable r →
    read_as (keeps_positions schema r.term.field) r.term r ≡ Some r
row-whole schema count r is fit = row-kept schema count (keeps_positions schema r.term.field) r is fit (λ e. e) ∙ ap Some (whole schema count r is)
