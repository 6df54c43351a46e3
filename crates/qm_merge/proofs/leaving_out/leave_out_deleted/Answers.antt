use Rattle.std.proofs.Common.{◌≡◌, ℕ, List, ap, length, map, sym, subst, ◌∙◌}
use Rattle.std.proofs.lemmas.List.FromFn.{length-map-range_with_len}
use Rattle.std.proofs.lemmas.Result.{IfOk-weaker}
use Rattle.qm_schema.specs.Schema.{FieldFacts}
use Rattle.qm_postings.specs.Reading.{Reader}
use Rattle.qm_postings.specs.Rows.{MakeSegment, Row, segment_of_rows}
use Rattle.qm_postings.specs.Segment.{alive_documents}
use Rattle.qm_merge.specs.AliveRows.{alive_columns, new_number, new_numbers, rows_left}
use Rattle.qm_merge.proofs.SegmentLeft.{documents-left, left-make}
use Rattle.qm_merge.proofs.leaving_out.leave_out_deleted.Goals as goal

pub alive_rows-requires : goal.alive_rows-requires
alive_rows-requires c =
    let s = c.args.segment.now.segment in
    ap length (c.deref.ensures.value ∙ c.in_ok-numbers.ensures.numbers) ∙ length-map-range_with_len (new_number s) 0 (length s.documents)

pub made_of_rows-requires : goal.made_of_rows-requires
made_of_rows-requires c =
    let r = c.args.segment.now in
    let s = r.segment in
    let columns = map (λ v. v.items) c.in_ok-lengths.lengths.items in
    let rows : c.in_ok-rows.rows.items ≡ rows_left (new_numbers s) r.rows = c.in_ok-rows.ensures.rows
    ∙ ap (λ t. rows_left t r.rows) (c.deref.ensures.value ∙ c.in_ok-numbers.ensures.numbers) in
    subst (λ (x : List FieldFacts). MakeSegment x c.block_len.result c.num_docs.result columns c.in_ok-rows.rows.items) (sym c.schema.ensures)
    (subst (λ (b : ℕ). MakeSegment s.schema b c.num_docs.result columns c.in_ok-rows.rows.items) (sym c.block_len.ensures)
    (subst (λ (m : ℕ). MakeSegment s.schema s.block_len m columns c.in_ok-rows.rows.items) (sym c.num_docs.ensures)
    (subst (λ (cs : List (List ℕ)). MakeSegment s.schema s.block_len (length (alive_documents s)) cs c.in_ok-rows.rows.items)
    (sym c.in_ok-lengths.ensures.columns)
    (subst (λ (rs : List Row). MakeSegment s.schema s.block_len (length (alive_documents s)) (alive_columns s) rs) (sym rows)
    (left-make r c.in_ok-rows.ensures.whole)))))

pub returns-clause-alive : goal.returns-clause-alive
returns-clause-alive c =
    let r = c.args.segment.now in
    let s = r.segment in
    let rows : c.in_ok-rows.rows.items ≡ rows_left (new_numbers s) r.rows = c.in_ok-rows.ensures.rows
    ∙ ap (λ t. rows_left t r.rows) (c.deref.ensures.value ∙ c.in_ok-numbers.ensures.numbers) in
    IfOk-weaker c.made_of_rows.result _ _ (λ it is.
    ap (λ (r : Reader). r.segment) is
    ∙ (λ i. segment_of_rows (c.schema.ensures i) (c.block_len.ensures i) (rows i) (c.in_ok-lengths.ensures.columns i) (c.num_docs.ensures i))
    ∙ documents-left r c.in_ok-rows.ensures.whole) c.made_of_rows.ensures.reader
