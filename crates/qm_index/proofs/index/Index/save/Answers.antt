-- What was saved stays where it is, and with the new files all of it is there.
use Rattle.std.proofs.Common.{◌≡◌, arith, inr, ◌∙◌}
use Rattle.qm_folder.specs.Names.{file_names}
use Rattle.qm_folder.specs.declared.updating.TheConstants.{MANIFEST}
use Rattle.qm_store.specs.Manifest.{manifest_spelled}
use Rattle.qm_folder.proofs.Moments.{weakened}
use Rattle.qm_index.specs.Indexed.{indexed}
use Rattle.qm_index.specs.Saving.{IsSavedOrAsBefore, manifest_with}
use Rattle.qm_index.specs.Writing.{IsWrittenOrNot}
use Rattle.qm_index.proofs.FileNames.{numbered-order}
use Rattle.qm_index.proofs.PlanWriting.{nothing-done}
use Rattle.qm_index.proofs.SavedOrBefore.{others-same, saved-or-before}
use Rattle.qm_index.proofs.SavingSteps.{held-were, numbered-later, were-still}
use Rattle.qm_index.proofs.index.Index.save.Goals as goal

pub returns-in_err-plan-clause-any_moment : goal.returns-in_err-plan-clause-any_moment
returns-in_err-plan-clause-any_moment g c = λ told was.
    let old = g.F.Folder.disk c.args.folder.now in
    nothing-done old (IsSavedOrAsBefore c.args.self.now old.seen) (c.requires.settled told) (λ d left. g.met.F.Folder.only_now c.args.folder.now d told left)
    (λ d same. inr (record { manifest = same MANIFEST.now; files = λ n below. same n }))

pub invariant_of-self : goal.invariant_of-self
invariant_of-self g c =
    let self = c.args.self.now in
    let plan = c.in_ok-plan.plan in
    let order = numbered-order plan.first (file_names plan.files.items) plan.next c.in_ok-plan.ensures.in_order in
    record {
      some = omega (arith, self.saved.some, c.in_ok-plan.ensures.later, order);
      numbered = numbered-later self.saved.next plan.next self.saved.segments.items (omega (arith, c.in_ok-plan.ensures.later, order)) self.saved.numbered;
    }

pub returns-in_err-written-clause-kept : goal.returns-in_err-written-clause-kept
returns-in_err-written-clause-kept g c = λ told was.
    let self = c.args.self.now in
    let plan = c.in_ok-plan.plan in
    let old = (g.F.Folder.disk c.args.folder.now).seen in
    let new = (g.F.Folder.disk c.write_plan-written.new.folder).seen in
    were-still plan.first self.saved.segments.items (indexed self).ended old new
    (numbered-later self.saved.next plan.first self.saved.segments.items c.in_ok-plan.ensures.later self.saved.numbered)
    (others-same plan.first plan.files.items c.deref.result.now old new (c.write_plan-written.ensures.seen told)) was

pub returns-in_err-written-clause-any_moment : goal.returns-in_err-written-clause-any_moment
returns-in_err-written-clause-any_moment g c = λ told was.
    let self = c.args.self.now in
    let plan = c.in_ok-plan.plan in
    let bytes = c.deref.result.now in
    let old = g.F.Folder.disk c.args.folder.now in
    let is : bytes ≡ manifest_spelled (manifest_with self plan.segments.items) = c.deref.ensures.value ∙ c.in_ok-plan.ensures.manifest in
    weakened old (g.F.Folder.disk c.write_plan-written.new.folder) (IsWrittenOrNot plan.first plan.files.items bytes old.seen) (IsSavedOrAsBefore self old.seen)
    (c.write_plan-written.ensures.any_moment told)
    (λ d either. saved-or-before self plan.first plan.files.items plan.segments.items bytes c.in_ok-plan.ensures.later c.in_ok-plan.ensures.holds is
    c.in_ok-plan.ensures.fits c.in_ok-plan.ensures.numbered old.seen d was either)

pub returns-clause-kept : goal.returns-clause-kept
returns-clause-kept g c = λ told was.
    let self = c.args.self.now in
    let plan = c.in_ok-plan.plan in
    let old = (g.F.Folder.disk c.args.folder.now).seen in
    let new = (g.F.Folder.disk c.write_plan-written.new.folder).seen in
    held-were new plan.segments.items (indexed self).ended (c.in_ok-plan.ensures.holds old new was (c.in_ok-written.ensures.written told).files)

pub returns-clause-any_moment : goal.returns-clause-any_moment
returns-clause-any_moment g c = λ told was.
    let self = c.args.self.now in
    let plan = c.in_ok-plan.plan in
    let bytes = c.deref.result.now in
    let old = g.F.Folder.disk c.args.folder.now in
    let is : bytes ≡ manifest_spelled (manifest_with self plan.segments.items) = c.deref.ensures.value ∙ c.in_ok-plan.ensures.manifest in
    weakened old (g.F.Folder.disk c.write_plan-written.new.folder) (IsWrittenOrNot plan.first plan.files.items bytes old.seen) (IsSavedOrAsBefore self old.seen)
    (c.write_plan-written.ensures.any_moment told)
    (λ d either. saved-or-before self plan.first plan.files.items plan.segments.items bytes c.in_ok-plan.ensures.later c.in_ok-plan.ensures.holds is
    c.in_ok-plan.ensures.fits c.in_ok-plan.ensures.numbered old.seen d was either)
