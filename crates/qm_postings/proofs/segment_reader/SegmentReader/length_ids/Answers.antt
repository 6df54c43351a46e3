use Rattle.std.proofs.Common.{[], List, ℕ, get_or, map, ap, ◌∙◌}
use Rattle.qm_postings.specs.Kept.{posted_of}
use Rattle.qm_postings.specs.Reading.{Reader}
use Rattle.qm_postings.specs.Rows.{columns_of}
use Rattle.qm_postings.proofs.ReaderRows.{columns-kept}
use Rattle.qm_postings.proofs.segment_reader.SegmentReader.length_ids.Goals as goal

pub returns : goal.returns
returns c =
    let inside = c.self.inside in
    let columns = map (λ v. v.items) inside.lengths.items in
    let posted = posted_of inside.terms.items inside.documents.items inside.frequencies inside.positions.items in
    c.column_of.ensures ∙ (λ i. get_or (map (λ v. v.items) (c.deref.ensures.value i)) (c.field_id.ensures i) [])
    ∙ ap (λ (cs : List (List ℕ)). get_or cs c.args.field [])
    (columns-kept inside.schema inside.block_len posted columns inside.max_doc c.self.invariant.0.lengths)
    ∙ ap (λ (r : Reader). get_or (columns_of r.segment) c.args.field []) c.self.view_is
