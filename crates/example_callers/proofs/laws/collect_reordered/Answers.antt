-- Both runs list what one tree means, and the other means the same.
use Rattle.std.proofs.Common.{ap, subst, sym, ◌∙◌}
use Rattle.std.specs.Prelude.{IsTrue}
use Rattle.qm_weight.specs.Callers.{pairs}
use Rattle.qm_weight.specs.OrderFacts.{is_scoring-reordered, list-reordered, matching-reordered}
use Rattle.example_callers.proofs.laws.collect_reordered.Goals as goal

pub returns-clause-documents : goal.returns-clause-documents
returns-clause-documents g c = λ same.
    let alike = matching-reordered (g.V.Weight.tree c.args.first.now) (g.W.Weight.tree c.args.second.now) same c.args.reader.now.segment in
    c.in_ok-found.ensures.documents ∙ alike ∙ sym c.in_ok-collect_matches.ensures.documents

pub returns-clause-scores : goal.returns-clause-scores
returns-clause-scores g c = λ same on.
    let first = g.V.Weight.tree c.args.first.now in
    let second = g.W.Weight.tree c.args.second.now in
    let alike = ap pairs (list-reordered first second same 1 c.args.reader.now.segment) in
    let also = subst IsTrue (is_scoring-reordered first second same) on in
    c.in_ok-found.ensures.scores on ∙ alike ∙ sym (c.in_ok-collect_matches.ensures.scores also)
