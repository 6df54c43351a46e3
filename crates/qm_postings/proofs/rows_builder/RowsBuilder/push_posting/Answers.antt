use Rattle.std.proofs.Common.{[], ◌∷◌, ap, ◌∙◌}
use Rattle.qm_postings.specs.RowsSoFar.{RowsSoFar, with_posting}
use Rattle.qm_postings.proofs.BuiltRows.{invariant-pushed, invariant-same, shown-posting, shown-same}
use Rattle.qm_postings.proofs.SegmentGrowth.{on_err}
use Rattle.qm_postings.proofs.rows_builder.RowsBuilder.push_posting.Goals as goal

pub invariant_of-self : goal.invariant_of-self
invariant_of-self c =
    let it = c.self.inside in
    invariant-same it.arrays c.push_posting.new.self it.start it.positions_start c.self.invariant c.in_err-push_posting.ensures.unchanged

pub invariant_of-self-2 : goal.invariant_of-self-2
invariant_of-self-2 c =
    let it = c.self.inside in
    invariant-pushed it.arrays c.push_posting.new.self it.start it.positions_start c.self.invariant (c.args.document ∷ []) (c.args.frequency ∷ []) []
    c.in_ok-push_posting.ensures.added

pub returns-in_err-push_posting-clause-unchanged : goal.returns-in_err-push_posting-clause-unchanged
returns-in_err-push_posting-clause-unchanged c =
    let it = c.self.inside in
    on_err c.from_residual.result _
    (shown-same it.arrays c.push_posting.new.self it.start it.positions_start c.self.invariant c.in_err-push_posting.ensures.unchanged ∙ c.self.view_is)

pub returns-clause-added : goal.returns-clause-added
returns-clause-added c =
    let it = c.self.inside in
    shown-posting it.arrays c.push_posting.new.self it.start it.positions_start c.self.invariant c.args.document c.args.frequency
    c.in_ok-push_posting.ensures.added ∙ ap (λ (b : RowsSoFar). with_posting b c.args.document c.args.frequency) c.self.view_is
