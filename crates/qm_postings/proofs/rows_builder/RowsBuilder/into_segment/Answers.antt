use Rattle.std.proofs.Common.{List, None, ap, map, subst, sym, ◌∙◌, ◌≡◌}
use Rattle.std.proofs.lemmas.Result.{IfOk-weaker}
use Rattle.qm_schema.specs.Schema.{FieldFacts}
use Rattle.qm_postings.specs.Kept.{HavePositions}
use Rattle.qm_postings.specs.Laying.{rows_of}
use Rattle.qm_postings.specs.Reading.{Reader, reader_of_arrays, reader_of_rows}
use Rattle.qm_postings.specs.Rows.{AreRows}
use Rattle.qm_postings.specs.RowsSoFar.{RowsSoFar}
use Rattle.qm_postings.proofs.BuiltRows.{all-laid}
use Rattle.qm_postings.proofs.LaidRows.{index-laid, positions-laid, reader-laid}
use Rattle.qm_postings.proofs.rows_builder.RowsBuilder.into_segment.Goals as goal

pub into_segment-requires-clause-index : goal.into_segment-requires-clause-index
into_segment-requires-clause-index c =
    let it = c.rows.inside.arrays in
    let none = c.rows.view_is ∙ c.leave_out_open.ensures in
    let laid = all-laid it.terms.items it.documents.items it.frequencies it.positions.items c.rows.inside.start c.rows.inside.positions_start
    c.rows.invariant (ap (λ (b : RowsSoFar). b.documents) none) (ap (λ (b : RowsSoFar). b.frequencies) none) (ap (λ (b : RowsSoFar). b.positions) none) in
    let are = subst (AreRows c.args.schema.now c.args.max_doc) (sym (ap (λ (b : RowsSoFar). b.rows) none)) c.requires.make.are_rows in
    index-laid c.args.schema.now c.args.max_doc (rows_of it) it.terms.items it.documents.items it.frequencies it.positions.items
    c.requires.make.few are laid

pub into_segment-requires-clause-positions : goal.into_segment-requires-clause-positions
into_segment-requires-clause-positions c =
    let it = c.rows.inside.arrays in
    let none = c.rows.view_is ∙ c.leave_out_open.ensures in
    let laid = all-laid it.terms.items it.documents.items it.frequencies it.positions.items c.rows.inside.start c.rows.inside.positions_start
    c.rows.invariant (ap (λ (b : RowsSoFar). b.documents) none) (ap (λ (b : RowsSoFar). b.frequencies) none) (ap (λ (b : RowsSoFar). b.positions) none) in
    let are = subst (AreRows c.args.schema.now c.args.max_doc) (sym (ap (λ (b : RowsSoFar). b.rows) none)) c.requires.make.are_rows in
    subst (λ (s : List FieldFacts). HavePositions s it.terms.items it.documents.items it.frequencies it.positions.items) (sym c.in_ok-schema.ensures.ok)
    (positions-laid c.args.schema.now c.args.max_doc (rows_of it) it.terms.items it.documents.items it.frequencies it.positions.items
    c.requires.make.few are laid)

pub returns-clause-reader : goal.returns-clause-reader
returns-clause-reader c =
    let it = c.rows.inside.arrays in
    let none = c.rows.view_is ∙ c.leave_out_open.ensures in
    let laid = all-laid it.terms.items it.documents.items it.frequencies it.positions.items c.rows.inside.start c.rows.inside.positions_start
    c.rows.invariant (ap (λ (b : RowsSoFar). b.documents) none) (ap (λ (b : RowsSoFar). b.frequencies) none) (ap (λ (b : RowsSoFar). b.positions) none) in
    let are = subst (AreRows c.args.schema.now c.args.max_doc) (sym (ap (λ (b : RowsSoFar). b.rows) none)) c.requires.make.are_rows in
    let columns = map (λ v. v.items) c.args.lengths.items in
    let same = reader-laid c.args.schema.now c.args.max_doc (rows_of it) it.terms.items it.documents.items it.frequencies it.positions.items
    c.requires.make.few are laid c.args.block_len columns in
    IfOk-weaker c.into_segment.result _ (λ (r : Reader). r ≡ reader_of_rows c.args.schema.now c.args.block_len c.args.self.rows columns c.args.max_doc)
    (λ r is. is ∙ (λ i. reader_of_arrays (c.in_ok-schema.ensures.ok i) c.args.block_len it.terms.items it.documents.items it.frequencies
    it.positions.items columns None c.args.max_doc) ∙ same
    ∙ ap (λ rows. reader_of_rows c.args.schema.now c.args.block_len rows columns c.args.max_doc) (ap (λ (b : RowsSoFar). b.rows) none))
    c.into_segment.ensures.reader
