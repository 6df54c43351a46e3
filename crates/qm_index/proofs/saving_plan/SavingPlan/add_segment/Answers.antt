use Rattle.std.proofs.Common.{ap, inl, sym, ◌∙◌}
use Rattle.std.specs.String.{string_bytes}
use Rattle.qm_store.specs.Stored.{stored}
use Rattle.qm_index.specs.FileNames.{segment_name}
use Rattle.qm_index.proofs.SavingSteps.{added-as}
use Rattle.qm_index.proofs.saving_plan.SavingPlan.add_segment.Goals as goal

pub add-requires-clause-named : goal.add-requires-clause-named
add-requires-clause-named c = inl c.in_ok-name.ensures

pub returns-clause-added : goal.returns-clause-added
returns-clause-added c =
    let key = c.in_ok-key.key in
    added-as (string_bytes c.in_ok-name.name) (segment_name key) c.in_ok-bytes.bytes.items (stored key c.args.segment.now)
    c.args.self.now.files.items c.add.new.self.files.items c.in_ok-key.ensures.added
    (c.in_ok-name.ensures ∙ ap segment_name (sym c.in_ok-key.ensures.number))
    (c.in_ok-bytes.ensures.stored ∙ ap (λ k. stored k c.args.segment.now) (sym c.in_ok-key.ensures.number))
