use Rattle.std.proofs.Common.{◌≡◌, ◌<◌, ◌++◌, ℕ, List, Some, length, ap, arith, subst, sym, ◌∙◌}
use Rattle.std.proofs.lemmas.List.Elements.{All-get_or}
use Rattle.std.proofs.lemmas.Option.{slice_get-get_or}
use Rattle.qm_postings.specs.LentRow.{lent_row}
use Rattle.qm_postings.specs.Rows.{IsRow, no_row}
use Rattle.qm_postings.specs.Segment.{keeps_positions}
use Rattle.qm_store.specs.RowBytes.{row_at, row_bytes}
use Rattle.qm_store.proofs.RowsRead.{row-read}
use Rattle.example_callers.proofs.bytes_callers.row_through_bytes.Goals as goal

-- what was written is its row, and what was read of a row's bytes is that row
pub returns-clause-row : goal.returns-clause-row
returns-clause-row c =
    let segment = c.args.reader.now.segment in
    let count = length segment.documents in
    let rows = c.args.reader.now.rows in
    let within : c.args.place < length rows = omega (arith, c.if-place-row_count.false, c.row_count.ensures.count) in
    let row = lent_row c.row-row.result in
    let is_row : IsRow segment.schema count row =
    subst (IsRow segment.schema count) (sym c.row-row.ensures) (All-get_or (IsRow segment.schema count) rows c.args.place no_row within c.row_count.ensures.whole.made.are_rows.each) in
    let bytes : c.deref.result.now ≡ row_bytes row =
    c.deref.ensures.value ∙ c.in_ok-push_row.ensures.added ∙ ap (λ (bs : List ℕ). bs ++ row_bytes row) c.new-bytes.ensures.items in
    let term : c.in_ok-term.term ≡ row.term = c.in_ok-term.ensures.ok ∙ c.term.ensures in
    let keeps : c.keeps_positions-has_positions.result ≡ keeps_positions segment.schema row.term.field =
    c.keeps_positions-has_positions.ensures ∙ (λ i. keeps_positions (c.schema.ensures i) (c.field.ensures i)) ∙ (λ i. keeps_positions segment.schema (term i).field) in
    c.in_ok-read_row.ensures ∙ (λ i. row_at (term i) (keeps i) (bytes i))
    ∙ row-read segment.schema count row is_row c.in_ok-push_row.ensures.small
    ∙ ap Some c.row-row.ensures ∙ sym (slice_get-get_or rows c.args.place no_row within)
