use Rattle.std.proofs.Common.{List, Some, ap, arith, option_map, refl, sym, ◌∙◌}
use Rattle.std.proofs.lemmas.Option.{same_Some}
use Rattle.qm_postings.specs.Reading.{Reader, reader_of_rows}
use Rattle.qm_postings.specs.Restriction.{rows_wanted}
use Rattle.qm_postings.specs.Rows.{Row}
use Rattle.qm_store.specs.Stored.{stored}
use Rattle.qm_store.specs.StoredSegment.{opened, opened_of, opened_segment, rows_of}
use Rattle.qm_store.specs.Wanted.{is_wanted}
use Rattle.qm_store.proofs.FileRead.{segment-opens, wanted-kept}
use Rattle.qm_store.proofs.SameOk.{same-ok}
use Rattle.qm_script.proofs.WantedRows.{segment-of_wanted}
use Rattle.example_callers.proofs.file_callers.wanted_through_file.Goals as goal

pub returns : goal.returns
returns c =
    let key = c.args.key in
    let r = c.args.segment.now in
    let s = r.segment in
    let wanted = c.args.wanted.now in
    let file = c.in_ok-bytes.ensures.stored in
    let are = c.in_ok-bytes.ensures.storable in
    let shows = same-ok (opened_of c.in_ok-stored.stored) (opened_segment key r)
    (sym (c.in_ok-stored.ensures.opened c.in_ok-bytes.bytes.items refl) ∙ (λ i. opened (c.schema.ensures i) key (file i))
    ∙ segment-opens key r are (omega (arith, c.ranges.key.fits)))
    in
    let from = c.in_ok-stored.ensures.of in
    let schema = c.schema-2.ensures in
    let made = sym (c.in_ok-some.ensures.given (stored key r) (ap (λ v. Some v.items) from.0 ∙ ap Some file))
    ∙ (λ i. option_map (λ (rows : List Row). reader_of_rows (schema i) (shows i).block_len rows (shows i).columns (shows i).documents)
    (rows_of (from.1 i) (stored key r) (schema i) (shows i).blocks wanted))
    ∙ ap (option_map (λ (rows : List Row). reader_of_rows s.schema s.block_len rows (opened_segment key r).columns (opened_segment key r).documents))
    (wanted-kept key r are wanted c.requires.apart)
    in
    ap (λ (q : Reader). q.segment) (same_Some _ (reader_of_rows s.schema s.block_len (rows_wanted (is_wanted wanted) r.rows) (opened_segment key r).columns (opened_segment key r).documents) made)
    ∙ segment-of_wanted (is_wanted wanted) r are.of
