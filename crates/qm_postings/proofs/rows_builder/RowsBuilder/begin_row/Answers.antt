use Rattle.std.proofs.Common.{◌∙◌}
use Rattle.qm_postings.proofs.BuiltRows.{invariant-same, shown-same}
use Rattle.qm_postings.proofs.rows_builder.RowsBuilder.begin_row.Goals as goal

pub invariant_of-self : goal.invariant_of-self
invariant_of-self c =
    let it = c.self.inside in
    invariant-same it.arrays c.reserve.new.self it.start it.positions_start c.self.invariant c.reserve.ensures

pub invariant_of-self-2 : goal.invariant_of-self-2
invariant_of-self-2 c =
    let it = c.self.inside in
    invariant-same it.arrays c.reserve.new.self it.start it.positions_start c.self.invariant c.reserve.ensures

pub returns-in_err-reserve : goal.returns-in_err-reserve
returns-in_err-reserve c =
    let it = c.self.inside in
    shown-same it.arrays c.reserve.new.self it.start it.positions_start c.self.invariant c.reserve.ensures ∙ c.self.view_is ∙ c.leave_out_open.ensures

pub returns : goal.returns
returns c =
    let it = c.self.inside in
    shown-same it.arrays c.reserve.new.self it.start it.positions_start c.self.invariant c.reserve.ensures ∙ c.self.view_is ∙ c.leave_out_open.ensures
