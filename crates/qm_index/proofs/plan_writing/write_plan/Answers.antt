use Rattle.std.proofs.Common.{arith, ◌∙◌}
use Rattle.qm_index.proofs.PlanWriting.{clean-of, left-of, seen-of, written-of}
use Rattle.qm_index.proofs.plan_writing.write_plan.Goals as goal

pub update-requires-clause-clean : goal.update-requires-clause-clean
update-requires-clause-clean g c =
    let plan = c.args.plan.now in
    clean-of plan.first plan.next plan.files.items c.args.manifest.now (omega (arith, plan.few)) c.requires.in_order c.as_slice.result.now c.as_slice-2.result.now
    c.as_slice.ensures.value (c.as_slice-2.ensures.value ∙ c.new-gone.ensures.items)

pub returns-in-Err-clause-seen : goal.returns-in-Err-clause-seen
returns-in-Err-clause-seen g c = λ told.
    let plan = c.args.plan.now in
    seen-of plan.first plan.next plan.files.items c.args.manifest.now (omega (arith, plan.few)) c.requires.in_order c.as_slice.result.now c.as_slice-2.result.now
    c.as_slice.ensures.value (c.as_slice-2.ensures.value ∙ c.new-gone.ensures.items)
    (g.F.Folder.disk c.args.folder.now) (g.F.Folder.disk c.update.new.folder).seen (c.update.ensures.seen told)

pub returns-in-Err-clause-any_moment : goal.returns-in-Err-clause-any_moment
returns-in-Err-clause-any_moment g c = λ told.
    let plan = c.args.plan.now in
    left-of plan.first plan.next plan.files.items c.args.manifest.now (omega (arith, plan.few)) c.requires.in_order c.as_slice.result.now c.as_slice-2.result.now
    c.as_slice.ensures.value (c.as_slice-2.ensures.value ∙ c.new-gone.ensures.items)
    (g.F.Folder.disk c.args.folder.now) (g.F.Folder.disk c.update.new.folder) (c.update.ensures.any_moment told)

pub returns-clause-seen : goal.returns-clause-seen
returns-clause-seen g c = λ told.
    let plan = c.args.plan.now in
    seen-of plan.first plan.next plan.files.items c.args.manifest.now (omega (arith, plan.few)) c.requires.in_order c.as_slice.result.now c.as_slice-2.result.now
    c.as_slice.ensures.value (c.as_slice-2.ensures.value ∙ c.new-gone.ensures.items)
    (g.F.Folder.disk c.args.folder.now) (g.F.Folder.disk c.update.new.folder).seen (c.update.ensures.seen told)

pub returns-clause-any_moment : goal.returns-clause-any_moment
returns-clause-any_moment g c = λ told.
    let plan = c.args.plan.now in
    left-of plan.first plan.next plan.files.items c.args.manifest.now (omega (arith, plan.few)) c.requires.in_order c.as_slice.result.now c.as_slice-2.result.now
    c.as_slice.ensures.value (c.as_slice-2.ensures.value ∙ c.new-gone.ensures.items)
    (g.F.Folder.disk c.args.folder.now) (g.F.Folder.disk c.update.new.folder) (c.update.ensures.any_moment told)

pub returns-clause-written : goal.returns-clause-written
returns-clause-written g c = λ told.
    let plan = c.args.plan.now in
    let done = rw c.in_default.is at c.update.ensures.acknowledged told in
    written-of plan.first plan.next plan.files.items c.args.manifest.now (omega (arith, plan.few)) c.requires.in_order c.as_slice.result.now c.as_slice-2.result.now
    c.as_slice.ensures.value (c.as_slice-2.ensures.value ∙ c.new-gone.ensures.items)
    (g.F.Folder.disk c.args.folder.now) (g.F.Folder.disk c.update.new.folder).seen done.after
