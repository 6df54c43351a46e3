-- One scorer more: `rt lemma All push` finds the lemma.
use Rattle.std.proofs.lemmas.List.Elements.{All-push}
use Rattle.qm_term.specs.TermScorer.{IsTermScorer}
use Rattle.example_search.proofs.either.Goals as goal

pub loop-term-preserved : goal.loop-term-preserved
loop-term-preserved c =
    rw c.in_ok-push.ensures.items (All-push IsTermScorer c.loop-term.members.items c.in-Some.scorer c.loop-term.invariant c.in-Some.ensures.lists.valid)
