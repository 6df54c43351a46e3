-- A file that was written opens, and has all rows of its segment.
use Rattle.std.proofs.Common.{◌≡◌, List, [], None, Option, Some, ap, arith, length, option_map, refl, subst, sym, ◌∙◌}
use Rattle.std.proofs.lemmas.Result.{err_from_is_err_and}
use Rattle.std.proofs.lemmas.Option.{same_Some}
use Rattle.qm_postings.specs.Reading.{Reader, reader_of_rows}
use Rattle.qm_postings.specs.Rows.{MakeSegment, Row, columns_of}
use Rattle.qm_schema.specs.Schema.{FieldFacts}
use Rattle.qm_store.specs.Stored.{stored}
use Rattle.qm_store.specs.StoredSegment.{Opened, opened, opened_of, opened_segment, rows_of_blocks}
use Rattle.qm_store.proofs.FileRead.{segment-opens, whole-kept}
use Rattle.qm_store.proofs.SameOk.{same-ok}
use Rattle.qm_index.proofs.OpenRefusals.{fails-memory, tells-memory}
use Rattle.qm_index.proofs.stored_files.segment_of_file.Goals as goal

-- what is made of rows
record IsMade (schema : List FieldFacts) (it : Reader) : Type 0 where
  fields : it.segment.schema ≡ schema
  none : it.segment.deleted ≡ []

made-of : (schema : List FieldFacts) (o : Opened) (found : Option (List Row)) (it : Reader) →
    option_map (λ rows. reader_of_rows schema o.block_len rows o.columns o.documents) found ≡ Some it → IsMade schema it
made-of schema o None it is = cc
made-of schema o (Some rows) it is =
    let same = same_Some (reader_of_rows schema o.block_len rows o.columns o.documents) it is in
    record { fields = sym (ap (λ (r : Reader). r.segment.schema) same); none = sym (ap (λ (r : Reader). r.segment.deleted) same) }

pub returns-clause-whole : goal.returns-clause-whole
returns-clause-whole c = λ r are fields file.
    let key = c.args.key in
    let s = r.segment in
    let shows = same-ok (opened_of c.in_ok-stored.stored) (opened_segment key r)
    (sym (c.in_ok-stored.ensures.opened c.args.bytes.items refl) ∙ (λ i. opened (sym fields i) key (file i))
    ∙ segment-opens key r are (omega (arith, c.ranges.key.fits))) in
    let from = c.in_ok-stored.ensures.of in
    let made = sym (c.in_ok-segment.ensures.given (stored key r) (ap (λ v. Some v.items) from.0 ∙ ap Some file))
    ∙ (λ i. option_map (λ (rows : List Row). reader_of_rows (sym fields i) (shows i).block_len rows (shows i).columns (shows i).documents)
    (rows_of_blocks (from.1 i) (stored key r) (sym fields i) None (shows i).blocks))
    ∙ ap (option_map (λ (rows : List Row). reader_of_rows s.schema s.block_len rows (opened_segment key r).columns (opened_segment key r).documents))
    (whole-kept key r are) in
    ap (λ (q : Reader). q.segment) (same_Some _ (reader_of_rows s.schema s.block_len r.rows (opened_segment key r).columns (opened_segment key r).documents) made)
    ∙ ap (λ (q : Reader). q.segment) are.of.same

pub returns-clause-schema : goal.returns-clause-schema
returns-clause-schema c =
    let o = opened_of c.in_ok-stored.stored in
    let from = c.in_ok-stored.ensures.of in
    let found = rows_of_blocks c.in_ok-stored.stored.key c.args.bytes.items c.args.schema.now None o.blocks in
    (made-of c.args.schema.now o found c.in_ok-segment.segment (c.in_ok-segment.ensures.given c.args.bytes.items (ap (λ v. Some v.items) from.0))).fields

pub returns-clause-none_deleted : goal.returns-clause-none_deleted
returns-clause-none_deleted c =
    let o = opened_of c.in_ok-stored.stored in
    let from = c.in_ok-stored.ensures.of in
    let found = rows_of_blocks c.in_ok-stored.stored.key c.args.bytes.items c.args.schema.now None o.blocks in
    (made-of c.args.schema.now o found c.in_ok-segment.segment (c.in_ok-segment.ensures.given c.args.bytes.items (ap (λ v. Some v.items) from.0))).none

pub returns-in_err-stored-clause-refused : goal.returns-in_err-stored-clause-refused
returns-in_err-stored-clause-refused c = λ r are fields file.
    let p = err_from_is_err_and c.from_residual.result c.from_residual.ensures.1 in
    let key = c.args.key in
    let read = (λ i. opened (sym fields i) key (file i)) ∙ segment-opens key r are (omega (arith, c.ranges.key.fits)) in
    rw (p.1, p.2) (fails-memory c.in_err-stored.field-0.0 (opened_segment key r) (opened c.args.schema.now key c.args.bytes.items) read
    (c.in_err-stored.ensures.opened c.args.bytes.items refl))

pub returns-in_err-segment-clause-refused : goal.returns-in_err-segment-clause-refused
returns-in_err-segment-clause-refused c = λ r are fields file.
    let p = err_from_is_err_and c.from_residual-in_err-segment.result c.from_residual-in_err-segment.ensures.1 in
    let key = c.args.key in
    let s = r.segment in
    let o = opened_of c.in_ok-stored.stored in
    let shows = same-ok o (opened_segment key r)
    (sym (c.in_ok-stored.ensures.opened c.args.bytes.items refl) ∙ (λ i. opened (sym fields i) key (file i))
    ∙ segment-opens key r are (omega (arith, c.ranges.key.fits))) in
    let from = c.in_ok-stored.ensures.of in
    let found = (λ i. rows_of_blocks (from.1 i) (stored key r) (sym fields i) None (shows i).blocks) ∙ whole-kept key r are in
    let make = subst (λ x. MakeSegment c.args.schema.now x.block_len x.documents x.columns r.rows) (sym shows)
    (subst (λ x. MakeSegment x s.block_len (length s.documents) (columns_of s) r.rows) fields are.of.made) in
    rw (p.1, p.2) (tells-memory c.args.schema.now o c.in_err-segment.field-0.0 r.rows
    (rows_of_blocks c.in_ok-stored.stored.key (stored key r) c.args.schema.now None o.blocks) found make
    (c.in_err-segment.ensures.given (stored key r) (ap (λ v. Some v.items) from.0 ∙ ap Some file)))
