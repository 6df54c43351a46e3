use Rattle.std.proofs.Common.{◌+◌, ◌<◌, ◌≤◌, ap, arith, length, subst, sym}
use Rattle.std.proofs.lemmas.List.{length-map}
use Rattle.qm_postings.specs.Kept.{PostingsRange}
use Rattle.qm_postings.specs.Rows.{row_in}
use Rattle.qm_postings.specs.RowsSoFar.{RowsSoFar}
use Rattle.qm_postings.proofs.BuiltRows.{all-documents-end, all-frequencies-end, all-positions-end}
use Rattle.qm_postings.proofs.rows_builder.RowsBuilderLentRows.row_at.Goals as goal

pub row_of-requires-clause-documents : goal.row_of-requires-clause-documents
row_of-requires-clause-documents c =
    let it = c.self.inside in
    let inside : c.args.place < length it.arrays.terms.items = omega (
      arith,
      c.requires,
      ap (λ (b : RowsSoFar). length b.rows) c.self.view_is,
      length-map it.arrays.terms.items (row_in it.arrays.documents.items it.arrays.frequencies it.arrays.positions.items),
    ) in
    let ends = all-documents-end it.arrays.terms.items it.arrays.documents.items it.arrays.frequencies it.arrays.positions.items it.start it.positions_start
    c.self.invariant in
    let end = subst (λ (r : PostingsRange). r.start + r.count ≤ length it.arrays.documents.items) (sym c.index.ensures)
    (ends c.args.place c.index.result.now inside) in
    omega (arith, end, ap length c.deref.ensures.value)

pub row_of-requires-clause-frequencies : goal.row_of-requires-clause-frequencies
row_of-requires-clause-frequencies c =
    let it = c.self.inside in
    let inside : c.args.place < length it.arrays.terms.items = omega (
      arith,
      c.requires,
      ap (λ (b : RowsSoFar). length b.rows) c.self.view_is,
      length-map it.arrays.terms.items (row_in it.arrays.documents.items it.arrays.frequencies it.arrays.positions.items),
    ) in
    let ends = all-frequencies-end it.arrays.terms.items it.arrays.documents.items it.arrays.frequencies it.arrays.positions.items it.start it.positions_start
    c.self.invariant in
    subst (λ (r : PostingsRange). r.start + r.count ≤ length it.arrays.frequencies) (sym c.index.ensures)
    (ends c.args.place c.index.result.now inside)

pub row_of-requires-clause-positions : goal.row_of-requires-clause-positions
row_of-requires-clause-positions c =
    let it = c.self.inside in
    let inside : c.args.place < length it.arrays.terms.items = omega (
      arith,
      c.requires,
      ap (λ (b : RowsSoFar). length b.rows) c.self.view_is,
      length-map it.arrays.terms.items (row_in it.arrays.documents.items it.arrays.frequencies it.arrays.positions.items),
    ) in
    let ends = all-positions-end it.arrays.terms.items it.arrays.documents.items it.arrays.frequencies it.arrays.positions.items it.start it.positions_start
    c.self.invariant in
    let end = subst (λ (r : PostingsRange). r.positions_start + r.positions_count ≤ length it.arrays.positions.items) (sym c.index.ensures)
    (ends c.args.place c.index.result.now inside) in
    omega (arith, end, ap length c.deref-2.ensures.value)
