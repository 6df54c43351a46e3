use Rattle.std.proofs.Common.{arith, inr, length}
use Rattle.qm_folder.specs.Names.{file_names}
use Rattle.qm_store.specs.Deletions.{stored_deletions}
use Rattle.qm_index.specs.FileNames.{deletions_name}
use Rattle.qm_index.proofs.FileNames.{numbered-order}
use Rattle.qm_index.proofs.SavingSteps.{added-whole}
use Rattle.qm_index.proofs.saving_plan.SavingPlan.deletions_of.Goals as goal

pub returns-then-deleted_count-eq0-clause-numbered : goal.returns-then-deleted_count-eq0-clause-numbered
returns-then-deleted_count-eq0-clause-numbered c =
    let self = c.args.self.now in
    omega (arith, self.some, numbered-order self.first (file_names self.files.items) self.next c.requires.in_order)

pub returns-clause-told : goal.returns-clause-told
returns-clause-told c = λ c' whole.
    let self = c.args.self.now in
    let s = c.args.segment.now.segment in
    let number = c.in_ok-number.number in
    inr (record {
      some = omega (arith, self.some, numbered-order self.first (file_names self.files.items) self.next c.requires.in_order, c.in_ok-number.ensures.later);
      numbers = c.in_ok-number.ensures.numbers;
      few = c.deleted_count.ensures.few;
      bytes = added-whole (deletions_name number) (stored_deletions c.args.key (length s.documents) s.deleted)
          self.files.items c.add_deletions.new.self.files.items c' c.in_ok-number.ensures.added whole;
    })
