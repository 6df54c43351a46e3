use Rattle.std.proofs.Common.{◌≡◌, ℕ, ◌+◌, List, [], ap, length, map, sym, subst, ◌∙◌}
use Rattle.std.proofs.lemmas.List.FromFn.{length-map-range_with_len}
use Rattle.qm_schema.specs.Schema.{FieldFacts}
use Rattle.qm_postings.specs.Kept.{document_from}
use Rattle.qm_postings.specs.Reading.{Reader}
use Rattle.qm_postings.specs.Rows.{MakeSegment, Row, all_posted, segment_of_rows}
use Rattle.qm_postings.specs.Segment.{Segment, without}
use Rattle.qm_merge.specs.JoinedRows.{columns_of_both}
use Rattle.qm_merge.specs.Merging.{joined}
use Rattle.qm_merge.proofs.SegmentOfBoth.{both-make, documents-of_both}
use Rattle.qm_merge.proofs.merging.joined_segment.Goals as goal

pub made_of_rows-requires : goal.made_of_rows-requires
made_of_rows-requires c =
    let r = c.args.first.now in
    let q = c.args.second.now in
    let s = r.segment in
    let columns = map (λ v. v.items) c.in_ok-lengths.lengths.items in
    let rows = c.in_ok-rows.rows.items in
    let n = length s.documents + length q.segment.documents in
    let count : c.max_doc.result + c.max_doc-2.result ≡ length s.documents + length q.segment.documents =
    λ i. c.max_doc.ensures.number i + c.max_doc-2.ensures.number i in
    subst (λ (x : List FieldFacts). MakeSegment x c.block_len.result (c.max_doc.result + c.max_doc-2.result) columns rows) (sym c.schema.ensures)
    (subst (λ (b : ℕ). MakeSegment s.schema b (c.max_doc.result + c.max_doc-2.result) columns rows) (sym c.block_len.ensures)
    (subst (λ (m : ℕ). MakeSegment s.schema s.block_len m columns rows) (sym count)
    (subst (λ (cs : List (List ℕ)). MakeSegment s.schema s.block_len n cs rows) (sym c.in_ok-lengths.ensures.columns)
    (subst (λ (rs : List Row). MakeSegment s.schema s.block_len n (columns_of_both s q.segment) rs) (sym c.in_ok-rows.ensures.rows)
    (both-make r q c.in_ok-rows.ensures.whole.0 c.in_ok-rows.ensures.whole.1 c.requires.alike c.requires.few)))))

pub delete_of_both-requires-clause-both : goal.delete_of_both-requires-clause-both
delete_of_both-requires-clause-both c =
    let columns = map (λ v. v.items) c.in_ok-lengths.lengths.items in
    ap (λ (r : Reader). length r.segment.documents) c.in_ok-segment.ensures.reader
    ∙ length-map-range_with_len (document_from (all_posted c.in_ok-rows.rows.items) columns) 0 (c.max_doc.result + c.max_doc-2.result)
    ∙ (λ i. c.max_doc.ensures.number i + c.max_doc-2.ensures.number i)

pub returns : goal.returns
returns c =
    let r = c.args.first.now in
    let q = c.args.second.now in
    let made : c.in_ok-segment.segment.segment ≡ without [] (joined r.segment q.segment) =
    ap (λ (r : Reader). r.segment) c.in_ok-segment.ensures.reader
    ∙ (λ i. segment_of_rows (c.schema.ensures i) (c.block_len.ensures i) (c.in_ok-rows.ensures.rows i) (c.in_ok-lengths.ensures.columns i)
    (c.max_doc.ensures.number i + c.max_doc-2.ensures.number i))
    ∙ documents-of_both r q c.in_ok-rows.ensures.whole.0 c.in_ok-rows.ensures.whole.1 c.requires.alike c.requires.few in
    record { joined = c.in_ok-delete_of_both.ensures.deleted ∙ ap (λ (s : Segment). without (joined r.segment q.segment).deleted s) made }
