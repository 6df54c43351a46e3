use Rattle.std.proofs.Common.{◌<◌, length, rules, arith}
use Rattle.qm_folder.specs.Names.{file_name}
use Rattle.qm_folder.specs.Calls.{HasCause}
use Rattle.qm_folder.proofs.Causes.{cause_after, no_cause}
use Rattle.qm_folder.proofs.Files.{IsThere, file_done, file_run}
use Rattle.qm_folder.proofs.Runs.{none_done}
use Rattle.qm_folder.proofs.updating.write_files.Goals as goal

pub loop-file-init : goal.loop-file-init
loop-file-init g c = λ told. none_done file_name IsThere c.args.files.now (g.F.Folder.disk c.args.folder.now) (λ d left. g.met.F.Folder.only_now c.args.folder.now d told left)

pub loop-file-preserved : goal.loop-file-preserved
loop-file-preserved g c = λ told.
    let in_range : c.loop-file.file-index < length c.args.files.now = omega arith in
    file_done c.args.files.now c.loop-file.file-index c.file-item.result c.as_str.result.now c.as_slice.result.now _ _ _ (c.loop-file.invariant told) in_range c.file-item.is c.as_str.ensures.value
    (c.write_synced.ensures.others told) (c.write_synced.ensures.any_moment told) c.requires c.as_slice.ensures.value (c.in_ok-write_synced.ensures.written told) (c.write_synced.ensures.cause told).later

pub returns-in_err-write_synced-clause-others : goal.returns-in_err-write_synced-clause-others
returns-in_err-write_synced-clause-others g c = λ told.
    let in_range : c.loop-file.file-index < length c.args.files.now = omega arith in
    (file_run c.args.files.now c.loop-file.file-index c.file-item.result c.as_str.result.now c.as_slice.result.now _ _ _ (c.loop-file.invariant told) in_range c.file-item.is c.as_str.ensures.value
    (c.write_synced.ensures.others told) (c.write_synced.ensures.any_moment told)).kept

pub returns-in_err-write_synced-clause-any_moment : goal.returns-in_err-write_synced-clause-any_moment
returns-in_err-write_synced-clause-any_moment g c = λ told.
    let in_range : c.loop-file.file-index < length c.args.files.now = omega arith in
    (file_run c.args.files.now c.loop-file.file-index c.file-item.result c.as_str.result.now c.as_slice.result.now _ _ _ (c.loop-file.invariant told) in_range c.file-item.is c.as_str.ensures.value
    (c.write_synced.ensures.others told) (c.write_synced.ensures.any_moment told)).left

pub returns-in_err-write_synced-clause-cause : goal.returns-in_err-write_synced-clause-cause
returns-in_err-write_synced-clause-cause g c = λ told.
    let ends : HasCause (g.F.Folder.disk c.loop-file.folder) (g.F.Folder.disk c.write_synced.new.folder) c.from_residual.result = search rules in
    cause_after (g.F.Folder.disk c.args.folder.now) _ _ c.from_residual.result (c.loop-file.invariant told).faults ends

pub returns-clause-written : goal.returns-clause-written
returns-clause-written g c = λ told k d lt. (c.loop-file.invariant told).done k d (omega arith)

pub returns-clause-others : goal.returns-clause-others
returns-clause-others g c = λ told. (c.loop-file.invariant told).run.kept

pub returns-clause-any_moment : goal.returns-clause-any_moment
returns-clause-any_moment g c = λ told. (c.loop-file.invariant told).run.left

pub returns-clause-cause : goal.returns-clause-cause
returns-clause-cause g c = λ told. no_cause _ _ _ (c.loop-file.invariant told).faults
