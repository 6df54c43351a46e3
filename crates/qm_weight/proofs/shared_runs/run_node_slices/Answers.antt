use Rattle.std.proofs.Common.{subst, sym}
use Rattle.std.specs.Fn.{CalledAt, TakesAt}
use Rattle.qm_term.specs.Runs.{CallsEach, MayCallEach, slices}
use Rattle.qm_weight.proofs.shared_runs.run_node_slices.Goals as goal

pub for_each_docset_buffered-requires-clause-allowed :
    goal.for_each_docset_buffered-requires-clause-allowed
for_each_docset_buffered-requires-clause-allowed g c =
    subst (λ ds. MayCallEach (λ f xs h. CalledAt g.F.FnMut f xs tt h) (TakesAt g.F.FnMut) c.args.callback.now (slices ds))
    (sym c.requires.scorer.list.documents) c.requires.allowed

pub returns : goal.returns
returns g c =
    let calls = subst (λ ds. CallsEach (λ f xs h. CalledAt g.F.FnMut f xs tt h) c.args.callback.now (slices ds) c.for_each_docset_buffered.new.callback)
    c.requires.scorer.list.documents c.for_each_docset_buffered.ensures.calls in
    record { calls = calls }
