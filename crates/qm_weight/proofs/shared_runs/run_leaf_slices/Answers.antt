-- The scorer's documents are those that match.
use Rattle.std.proofs.Common.{subst, sym, ◌∙◌}
use Rattle.std.specs.Fn.{CalledAt, TakesAt}
use Rattle.qm_term.specs.Runs.{CallsEach, MayCallEach, slices}
use Rattle.qm_weight.specs.LeafScorers.{IsLeafOf}
use Rattle.qm_weight.proofs.shared_runs.run_leaf_slices.Goals as goal
use Rattle.qm_scorer.specs.BareFacts.{documents-bare}

pub for_each_docset_buffered-requires-clause-allowed :
    goal.for_each_docset_buffered-requires-clause-allowed
for_each_docset_buffered-requires-clause-allowed g c =
    let own = subst (IsLeafOf g.L.DocSet (g.W.StandsFor.tree c.args.weight.now) 1 c.args.reader.now.segment) c.in-Some.is c.requires.leaf in
    subst (λ ds. MayCallEach (λ f xs h. CalledAt g.F.FnMut f xs tt h) (TakesAt g.F.FnMut) c.args.callback.now (slices ds))
    (sym own.list.documents ∙ documents-bare _) c.requires.allowed

pub returns-in-Some : goal.returns-in-Some
returns-in-Some g c =
    let own = subst (IsLeafOf g.L.DocSet (g.W.StandsFor.tree c.args.weight.now) 1 c.args.reader.now.segment) c.in-Some.is c.requires.leaf in
    let calls = subst (λ ds. CallsEach (λ f xs h. CalledAt g.F.FnMut f xs tt h) c.args.callback.now (slices ds) c.for_each_docset_buffered.new.callback)
    (sym (documents-bare _) ∙ own.list.documents) c.for_each_docset_buffered.ensures.calls in
    record { calls = calls }
