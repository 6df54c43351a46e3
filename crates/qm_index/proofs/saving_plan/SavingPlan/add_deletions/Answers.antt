use Rattle.std.proofs.Common.{ap, inr, length, sym, ◌∙◌}
use Rattle.std.specs.String.{string_bytes}
use Rattle.qm_store.specs.Deletions.{stored_deletions}
use Rattle.qm_index.specs.FileNames.{deletions_name}
use Rattle.qm_index.proofs.SavingSteps.{added-as}
use Rattle.qm_index.proofs.saving_plan.SavingPlan.add_deletions.Goals as goal

pub add-requires-clause-named : goal.add-requires-clause-named
add-requires-clause-named c = inr c.in_ok-name.ensures

pub returns-clause-added : goal.returns-clause-added
returns-clause-added c =
    let number = c.in_ok-number.number in
    let s = c.args.segment.now.segment in
    added-as (string_bytes c.in_ok-name.name) (deletions_name number) c.in_ok-bytes.bytes.items (stored_deletions c.args.key (length s.documents) s.deleted)
    c.args.self.now.files.items c.add.new.self.files.items c.in_ok-number.ensures.added
    (c.in_ok-name.ensures ∙ ap deletions_name (sym c.in_ok-number.ensures.number)) c.in_ok-bytes.ensures.stored
