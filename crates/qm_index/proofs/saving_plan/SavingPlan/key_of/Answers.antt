use Rattle.std.proofs.Common.{arith, refl}
use Rattle.qm_folder.specs.Names.{file_names}
use Rattle.qm_store.specs.Stored.{stored}
use Rattle.qm_index.specs.FileNames.{segment_name}
use Rattle.qm_index.proofs.FileNames.{numbered-order}
use Rattle.qm_index.proofs.SavingSteps.{added-whole}
use Rattle.qm_index.proofs.saving_plan.SavingPlan.key_of.Goals as goal

pub returns-in-Some-clause-numbered : goal.returns-in-Some-clause-numbered
returns-in-Some-clause-numbered c =
    let self = c.args.self.now in
    let below = rw c.in-Some.is at c.requires.before in
    omega (arith, below.key, numbered-order self.first (file_names self.files.items) self.next c.requires.in_order)

pub returns-in_ok-key-in-None-clause-file : goal.returns-in_ok-key-in-None-clause-file
returns-in_ok-key-in-None-clause-file c = λ old c' was added.
    let key = c.in_ok-key-in-None.key in
    record {
      reader = c.args.segment.now;
      storable = c.in_ok-key-in-None.ensures.storable;
      of = refl;
      bytes = added-whole (segment_name key) (stored key c.args.segment.now) c.args.self.now.files.items c.add_segment.new.self.files.items c'
          c.in_ok-key-in-None.ensures.added added.whole;
    }
