use Rattle.std.proofs.Common.{◌≡◌, ◌++◌, ◌∷◌, [], IsOk, refl, rules}
use Rattle.std.specs.String.{string_bytes}
use Rattle.qm_folder.specs.declared.new_file.NewFile.{NewFile}
use Rattle.qm_index.specs.SavedIndex.{IsAdded}
use Rattle.qm_index.proofs.SavingSteps.{added-numbered}
use Rattle.qm_index.proofs.saving_plan.SavingPlan.add.Goals as goal

pub returns-clause-added : goal.returns-clause-added
returns-clause-added c =
    let file : NewFile = record { name = c.args.name; bytes = c.args.bytes } in
    let ok : IsOk c.push.result = search rules in
    let pushed : c.push.new.self.items ≡ c.args.self.now.files.items ++ file ∷ [] = rw ok at c.push.ensures.items in
    record { file = file; behind = pushed; named = refl; whole = refl }

pub returns-clause-in_order : goal.returns-clause-in_order
returns-clause-in_order c =
    let file : NewFile = record { name = c.args.name; bytes = c.args.bytes } in
    let ok : IsOk c.push.result = search rules in
    let pushed : c.push.new.self.items ≡ c.args.self.now.files.items ++ file ∷ [] = rw ok at c.push.ensures.items in
    let is : IsAdded (string_bytes c.args.name) c.args.bytes.items c.args.self.now.files.items c.push.new.self.items =
    record { file = file; behind = pushed; named = refl; whole = refl } in
    added-numbered c.args.self.now.first c.args.self.now.next c.args.number (string_bytes c.args.name) c.args.bytes.items c.args.self.now.files.items c.push.new.self.items is
    c.requires.in_order c.requires.later c.requires.named
