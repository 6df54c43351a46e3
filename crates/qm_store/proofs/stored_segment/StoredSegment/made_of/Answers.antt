use Rattle.std.proofs.Common.{Some, ap, map, sym, ◌∙◌}
use Rattle.qm_postings.specs.Reading.{reader_of_rows}
use Rattle.qm_store.proofs.stored_segment.StoredSegment.made_of.Goals as goal

pub returns-in-Ok-clause-given : goal.returns-in-Ok-clause-given
returns-in-Ok-clause-given g c =
    let s = c.args.self.now in
    let columns = c.in_ok-columns.ensures ∙ ap (map (λ c. c.items)) c.deref.ensures.value in
    ap Some (sym (c.in-Ok.ensures.reader ∙ (λ i. reader_of_rows c.args.schema.now s.block_len c.args.rows.rows (columns i) s.documents)))

pub returns-in-Ok-clause-none_deleted : goal.returns-in-Ok-clause-none_deleted
returns-in-Ok-clause-none_deleted g c = ap (λ r. r.segment.deleted) c.in-Ok.ensures.reader
