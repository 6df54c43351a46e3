use Rattle.std.proofs.Common.{ap, ◌∙◌}
use Rattle.qm_postings.specs.RowsSoFar.{RowsSoFar, with_position}
use Rattle.qm_postings.proofs.BuiltRows.{invariant-position, shown-position}
use Rattle.qm_postings.proofs.rows_builder.RowsBuilder.push_position.Goals as goal

pub invariant_of-self-2 : goal.invariant_of-self-2
invariant_of-self-2 c =
    let it = c.self.inside in
    invariant-position it.arrays c.push.new.self.items it.start it.positions_start c.args.position c.self.invariant c.in_ok-push.ensures.items

pub returns-clause-added : goal.returns-clause-added
returns-clause-added c =
    let it = c.self.inside in
    shown-position it.arrays c.push.new.self.items it.start it.positions_start c.args.position c.self.invariant c.in_ok-push.ensures.items
    ∙ ap (λ (b : RowsSoFar). with_position b c.args.position) c.self.view_is
