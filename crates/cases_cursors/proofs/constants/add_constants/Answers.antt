-- One more constant is a scorer too.
use Rattle.std.proofs.Common.{pos}
use Rattle.std.specs.Prelude.{◌≤ℤ◌}
use Rattle.std.proofs.lemmas.List.Elements.{All-push}
use Rattle.qm_combine.specs.AllDocuments.{IsOverAll}
use Rattle.cases_cursors.proofs.constants.add_constants.Goals as goal

pub loop-end-preserved : goal.loop-end-preserved
loop-end-preserved c =
    rw c.in_ok-push.ensures.items
    (All-push (λ m. IsOverAll m.docset × (pos 0 ≤ℤ m.score)) c.loop-end.members.items _ c.loop-end.invariant c.new-in-loop-end.ensures.cursor.valid)
