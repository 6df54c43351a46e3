use Rattle.std.proofs.Common.{◌≡◌, arith, subst, sym, ◌∙◌}
use Rattle.std.specs.Prelude.{IfSome}
use Rattle.qm_folder.specs.Names.{file_names}
use Rattle.qm_index.proofs.FileNames.{numbered-order}
use Rattle.qm_index.proofs.SavingSteps.{fewer-added, kept-held}
use Rattle.qm_index.specs.SavedIndex.{IsAddedTo, WasHeld}
use Rattle.qm_index.proofs.saving_plan.SavingPlan.add_changes.Goals as goal
use Rattle.qm_index.proofs.saving_plan.SavingPlan.add_changes.Goals.{in-Some+else-kept-deleted, in_default}

pub returns-then-kept-deleted-clause-holds : goal.returns-then-kept-deleted-clause-holds
returns-then-kept-deleted-clause-holds c = λ old c' was added.
    let self = c.args.self.now in
    let s = c.args.segment.now.segment in
    kept-held self.first self.files.items old c' c.in-Some.kept s (rw c.in-Some.is at c.requires.before) added
    (c.if-kept-deleted.true ∙ c.deleted_count-deleted.ensures.deleted) (rw c.in-Some.is at was)

pub returns-then-kept-deleted-clause-numbered : goal.returns-then-kept-deleted-clause-numbered
returns-then-kept-deleted-clause-numbered c =
    let self = c.args.self.now in
    let below = rw c.in-Some.is at c.requires.before in
    let order = numbered-order self.first (file_names self.files.items) self.next c.requires.in_order in
    record { key = omega (arith, below.key, order); deletions = omega (arith, below.deletions, order) }

pub returns-clause-holds : goal.returns-clause-holds
returns-clause-holds c = λ old c' was added.
    let s = c.args.segment.now.segment in
    let same : c.match-before.before ≡ c.args.before = elim c.match-before.branch [
      | in-Some+else-kept-deleted w ↦ w.before-is ∙ sym w.in-Some.is
      | in_default w ↦ w.before-is
    ] in
    record {
      file = c.in_ok-key.ensures.file old c' (subst (λ b. IfSome b (λ k. WasHeld old k s)) (sym same) was) (subst (λ n. IsAddedTo n c.key_of.new.self.files.items old c') c.deletions_of.ensures.first
          (fewer-added c.deletions_of.new.self.first c.key_of.new.self.files.items c.deletions_of.new.self.files.items old c'
          c.in_ok-deletions.ensures.more added));
      deleted = c.in_ok-deletions.ensures.told c' added.whole;
      counted = c.deleted_count-deleted.ensures.deleted;
      ascending = c.deleted_count-deleted.ensures.ascending;
    }

pub returns-clause-idle : goal.returns-clause-idle
returns-clause-idle c = elim c.match-before.branch [
  | in-Some+else-kept-deleted w ↦ rw w.in-Some.is (λ same. absurd (w.if-kept-deleted.false (same ∙ sym c.deleted_count-deleted.ensures.deleted)))
  | in_default w ↦ rw w.in_default.is tt
]
