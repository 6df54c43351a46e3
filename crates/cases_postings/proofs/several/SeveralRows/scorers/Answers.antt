-- One scorer more.
use Rattle.std.proofs.lemmas.List.Elements.{All-push}
use Rattle.qm_term.specs.TermScorer.{IsTermScorer}
use Rattle.cases_postings.proofs.several.SeveralRows.scorers.Goals as goal

pub loop-part-preserved : goal.loop-part-preserved
loop-part-preserved c =
    rw c.in_ok-push.ensures.items
    (All-push IsTermScorer c.loop-part.row.items c.in_ok-scorer_of.field-0 c.loop-part.invariant c.in_ok-scorer_of.ensures)
