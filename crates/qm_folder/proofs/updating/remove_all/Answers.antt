use Rattle.std.proofs.Common.{◌<◌, length, rules, arith}
use Rattle.std.specs.String.{string_bytes}
use Rattle.qm_folder.specs.Calls.{HasCause, IsRemoved}
use Rattle.qm_folder.proofs.Causes.{cause_after, no_cause}
use Rattle.qm_folder.proofs.Files.{IsAway, name_done, name_run}
use Rattle.qm_folder.proofs.NameLists.{all_names}
use Rattle.qm_folder.proofs.Runs.{none_done}
use Rattle.qm_folder.proofs.updating.remove_all.Goals as goal

pub loop-name-init : goal.loop-name-init
loop-name-init g c = λ told. none_done string_bytes IsAway c.args.gone.now (g.F.Folder.disk c.args.folder.now) (λ d left. g.met.F.Folder.only_now c.args.folder.now d told left)

pub loop-name-preserved : goal.loop-name-preserved
loop-name-preserved g c = λ told.
    let in_range : c.loop-name.name-index < length c.args.gone.now = omega arith in
    name_done c.args.gone.now c.loop-name.name-index c.name-item.result c.as_str.result.now _ _ _ (c.loop-name.invariant told) in_range c.name-item.is c.as_str.ensures.value
    (λ d left. g.met.F.Folder.only_now c.loop-name.folder d told left) (c.remove.ensures.removes told) (c.remove.ensures.time told) (c.in_ok-remove.ensures.removed told) (c.remove.ensures.cause told).later

pub returns-in_err-remove-clause-others : goal.returns-in_err-remove-clause-others
returns-in_err-remove-clause-others g c = λ told.
    let in_range : c.loop-name.name-index < length c.args.gone.now = omega arith in
    (name_run c.args.gone.now c.loop-name.name-index c.name-item.result c.as_str.result.now _ _ _ (c.loop-name.invariant told) in_range c.name-item.is c.as_str.ensures.value
    (λ d left. g.met.F.Folder.only_now c.loop-name.folder d told left) (c.remove.ensures.removes told) (c.remove.ensures.time told)).kept

pub returns-in_err-remove-clause-any_moment : goal.returns-in_err-remove-clause-any_moment
returns-in_err-remove-clause-any_moment g c = λ told.
    let in_range : c.loop-name.name-index < length c.args.gone.now = omega arith in
    (name_run c.args.gone.now c.loop-name.name-index c.name-item.result c.as_str.result.now _ _ _ (c.loop-name.invariant told) in_range c.name-item.is c.as_str.ensures.value
    (λ d left. g.met.F.Folder.only_now c.loop-name.folder d told left) (c.remove.ensures.removes told) (c.remove.ensures.time told)).left

pub returns-in_err-remove-clause-cause : goal.returns-in_err-remove-clause-cause
returns-in_err-remove-clause-cause g c = λ told.
    let ends : HasCause (g.F.Folder.disk c.loop-name.folder) (g.F.Folder.disk c.remove.new.self) c.from_residual.result = search rules in
    cause_after (g.F.Folder.disk c.args.folder.now) _ _ c.from_residual.result (c.loop-name.invariant told).faults ends

pub returns-clause-removed : goal.returns-clause-removed
returns-clause-removed g c = λ told. all_names string_bytes (λ n. IsRemoved n (g.F.Folder.disk c.loop-name.folder)) c.args.gone.now (λ k d lt. (c.loop-name.invariant told).done k d (omega arith))

pub returns-clause-others : goal.returns-clause-others
returns-clause-others g c = λ told. (c.loop-name.invariant told).run.kept

pub returns-clause-any_moment : goal.returns-clause-any_moment
returns-clause-any_moment g c = λ told. (c.loop-name.invariant told).run.left

pub returns-clause-cause : goal.returns-clause-cause
returns-clause-cause g c = λ told. no_cause _ _ _ (c.loop-name.invariant told).faults
