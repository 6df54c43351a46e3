-- It goes past its own document.
use Rattle.std.proofs.Common.{ap, ◌+◌, ◌∙◌}
use Rattle.qm_docset.specs.Entry.{from}
use Rattle.qm_combine.specs.United.{shown_list}
use Rattle.qm_combine.proofs.Standing.{from_here}
use Rattle.qm_combine.proofs.union.windowed_union.WindowedUnion.step.Goals as goal

pub returns-clause-entries : goal.returns-clause-entries
returns-clause-entries g c =
    let s = g.Self.WindowedUnion.shown c.args.self.now in
    let h = g.met.Self.WindowedUnion.going c.args.self.now c.requires.standing in
    c.go_to.ensures.entries
    ∙ ap (λ d. from (d + 1) (shown_list g.C.ScoreCombiner.combined g.C.ScoreCombiner.value s)) c.document-next.ensures
    ∙ from_here s.document _ _ h.standing.ascending h.standing.first
