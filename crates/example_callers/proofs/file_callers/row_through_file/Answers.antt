use Rattle.std.proofs.Common.{◌≡◌, Option, Some, Result, Ok, Err, IfOk, ap, arith, refl, sym, ◌∙◌}
use Rattle.std.proofs.lemmas.Option.{same_Some}
use Rattle.qm_postings.specs.Rows.{Row}
use Rattle.qm_postings.specs.Segment.{keeps_positions}
use Rattle.qm_store.specs.Pieces.{GivesSome}
use Rattle.qm_store.specs.Stored.{kept_row, stored}
use Rattle.qm_store.specs.StoredSegment.{looked_up, opened, opened_of, opened_segment}
use Rattle.qm_store.specs.declared.store_error.StoreError.{StoreError}
use Rattle.qm_store.proofs.FileRead.{segment-opens, term-kept}
use Rattle.qm_store.proofs.SameOk.{same-ok}
use Rattle.example_callers.proofs.file_callers.row_through_file.Goals as goal

-- what was returned is what is known to be there
given : (result : Result (Option Row) StoreError) (found : Option (Option Row)) (x : Option Row) → GivesSome (λ row. row) result found → found ≡ Some x →
    IfOk result (λ row. row ≡ x)
given (Ok y) found x gives is = same_Some y x (sym gives ∙ is)
given (Err e) found x gives is = tt

pub returns : goal.returns
returns c =
    let key = c.args.key in
    let r = c.args.segment.now in
    let t = c.args.term.now in
    let file = c.in_ok-bytes.ensures.stored in
    let placed = c.keeps_positions-has_positions.ensures ∙ (λ i. keeps_positions (c.schema-2.ensures i) (c.field.ensures i)) in
    let shows = same-ok (opened_of c.in_ok-stored.stored) (opened_segment key r)
    (sym (c.in_ok-stored.ensures.opened c.in_ok-bytes.bytes.items refl) ∙ (λ i. opened (c.schema.ensures i) key (file i))
    ∙ segment-opens key r c.in_ok-bytes.ensures.storable (omega (arith, c.ranges.key.fits)))
    in
    let from = c.in_ok-stored.ensures.of in
    given c.row.result _ (kept_row (keeps_positions r.segment.schema t.field) t r.rows)
    (c.row.ensures (stored key r) (ap (λ s. Some s.items) from.0 ∙ ap Some file))
    ((λ i. looked_up (from.1 i) (stored key r) (placed i) t (shows i).blocks)
    ∙ term-kept key r c.in_ok-bytes.ensures.storable (keeps_positions r.segment.schema t.field) t (λ e. e))
