use Rattle.std.proofs.Common.{[], ap, arith, ◌∙◌}
use Rattle.qm_store.specs.Manifest.{facts_of, manifest_spelled}
use Rattle.qm_index.proofs.SavingSteps.{numbered-later}
use Rattle.qm_index.proofs.index.Index.plan_save.Goals as goal

pub returns-clause-manifest : goal.returns-clause-manifest
returns-clause-manifest c =
    let self = c.args.self.now in
    c.in_ok-manifest.ensures.spelled ∙ ap (λ ks. manifest_spelled (facts_of self.searcher self.block_len ks [])) c.deref-2.ensures.value

pub returns-clause-numbered : goal.returns-clause-numbered
returns-clause-numbered c =
    let plan = c.add_all.new.self in
    numbered-later plan.next 18446744073709551615 plan.segments.items (omega (arith, plan.few)) plan.numbered
