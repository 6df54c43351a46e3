use Rattle.std.proofs.Common.{ap, ◌∙◌}
use Rattle.qm_postings.specs.RowsSoFar.{RowsSoFar, begun}
use Rattle.qm_postings.proofs.BuiltRows.{invariant-cut, shown-cut}
use Rattle.qm_postings.proofs.rows_builder.RowsBuilder.leave_out_open.Goals as goal

pub invariant_of-self : goal.invariant_of-self
invariant_of-self c =
    let it = c.self.inside in
    invariant-cut it.arrays.terms.items it.arrays.documents.items it.arrays.frequencies it.arrays.positions.items it.start it.positions_start
    c.self.invariant c.truncate.new.self.items c.truncate-2.new.self c.truncate-3.new.self.items c.truncate.ensures.items c.truncate-2.ensures
    c.truncate-3.ensures.items

pub returns : goal.returns
returns c =
    let it = c.self.inside in
    shown-cut it.arrays.terms.items it.arrays.documents.items it.arrays.frequencies it.arrays.positions.items it.start it.positions_start
    c.self.invariant c.truncate.new.self.items c.truncate-2.new.self c.truncate-3.new.self.items c.truncate.ensures.items c.truncate-2.ensures
    c.truncate-3.ensures.items ∙ ap (λ (b : RowsSoFar). begun b.rows) c.self.view_is
