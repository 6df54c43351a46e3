use Rattle.std.proofs.Common.{ap, ◌∙◌}
use Rattle.qm_scorer.specs.LeastDocs.{least_of}
use Rattle.qm_scorer.proofs.LeastRows.{AreLeasts-least}
use Rattle.qm_scorer.proofs.least_docs.LeastDocs.least.Goals as goal

pub returns : goal.returns
returns c =
    c.least_doc.ensures ∙ ap least_of c.deref.ensures.value ∙ AreLeasts-least _ _ c.requires.valid.tops ∙ AreLeasts-least _ _ c.requires.valid.leasts
