use Rattle.qm_postings.proofs.BuiltRows.{invariant-nothing, shown-nothing}
use Rattle.qm_postings.proofs.rows_builder.RowsBuilder.new.Goals as goal

pub invariant_of-result : goal.invariant_of-result
invariant_of-result c =
    let it = c.empty.result in
    invariant-nothing it.terms.items it.documents.items it.frequencies it.positions.items c.empty.ensures.terms

pub returns : goal.returns
returns c =
    let it = c.empty.result in
    shown-nothing it.terms.items it.documents.items it.frequencies it.positions.items c.empty.ensures.terms c.empty.ensures.documents
    c.empty.ensures.frequencies c.empty.ensures.positions
