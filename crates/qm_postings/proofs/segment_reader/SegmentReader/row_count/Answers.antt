use Rattle.std.proofs.Common.{map, subst}
use Rattle.qm_postings.specs.Reading.{IsOfRows, Reader}
use Rattle.qm_postings.proofs.ReaderRows.{reader-of_rows}
use Rattle.qm_postings.proofs.segment_reader.SegmentReader.row_count.Goals as goal

pub returns-clause-whole : goal.returns-clause-whole
returns-clause-whole c =
    let inside = c.self.inside in
    let kept = c.self.invariant.0 in
    subst (λ (r : Reader). IsOfRows r) c.self.view_is
    (reader-of_rows inside.schema inside.max_doc inside.terms.items inside.documents.items inside.frequencies inside.positions.items
    kept.index kept.positions inside.block_len (map (λ c. c.items) inside.lengths.items) inside.alive kept.few kept.cut kept.short kept.lengths)
