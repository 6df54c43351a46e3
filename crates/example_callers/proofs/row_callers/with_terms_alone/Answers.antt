use Rattle.std.proofs.Common.{ℕ, List, ap, length, map, rules, sym, subst, ◌∙◌}
use Rattle.qm_schema.specs.Schema.{FieldFacts}
use Rattle.qm_postings.specs.Reading.{Reader}
use Rattle.qm_postings.specs.Restriction.{rows_wanted}
use Rattle.qm_postings.specs.Rows.{MakeSegment, Row, columns_of, segment_of_rows}
use Rattle.example_callers.specs.Found.{is_wanted}
use Rattle.qm_script.proofs.WantedRows.{make-wanted, segment-of_wanted}
use Rattle.example_callers.proofs.row_callers.with_terms_alone.Goals as goal

pub unreachable-requires : goal.unreachable-requires
unreachable-requires c =
    let reader = c.args.reader.now in
    let s = reader.segment in
    let wanted = is_wanted c.args.terms.now in
    let own = columns_of s in
    let columns = map (λ v. v.items) c.in_ok-lengths.lengths.items in
    let n = length s.documents in
    let rows = rows_wanted wanted reader.rows in
    let made = subst (λ (x : List FieldFacts). MakeSegment x c.block_len.result c.max_doc.result columns c.in_ok-rows.rows.items) (sym c.schema.ensures)
    (subst (λ (b : ℕ). MakeSegment s.schema b c.max_doc.result columns c.in_ok-rows.rows.items) (sym c.block_len.ensures)
    (subst (λ (m : ℕ). MakeSegment s.schema s.block_len m columns c.in_ok-rows.rows.items) (sym c.max_doc.ensures.number)
    (subst (λ (cs : List (List ℕ)). MakeSegment s.schema s.block_len n cs c.in_ok-rows.rows.items) (sym c.in_ok-lengths.ensures.columns)
    (subst (λ (rs : List Row). MakeSegment s.schema s.block_len n own rs) (sym c.in_ok-rows.ensures.rows)
    (make-wanted wanted reader c.in_ok-rows.ensures.whole))))) in
    c.from_rows-made.ensures.not_rows.0 (search rules) made

pub returns-in-Ok-clause-restricted : goal.returns-in-Ok-clause-restricted
returns-in-Ok-clause-restricted c =
    ap (λ (r : Reader). r.segment) c.in-Ok.ensures.reader
    ∙ (λ i. segment_of_rows (c.schema.ensures i) (c.block_len.ensures i) (c.in_ok-rows.ensures.rows i)
    (c.in_ok-lengths.ensures.columns i) (c.max_doc.ensures.number i))
    ∙ segment-of_wanted (is_wanted c.args.terms.now) c.args.reader.now c.in_ok-rows.ensures.whole
