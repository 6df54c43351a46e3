use Rattle.std.proofs.Common.{[]}
use Rattle.std.proofs.lemmas.Result.{on_ok_weaker}
use Rattle.qm_folder.specs.Names.{file_names}
use Rattle.qm_folder.proofs.Runs.{call}
use Rattle.qm_folder.proofs.Updates.{files_alone, files_and_staged, files_staged_synced, prepared}
use Rattle.qm_folder.proofs.updating.prepare.Goals as goal

pub returns-in_err-write_files-clause-others : goal.returns-in_err-write_files-clause-others
returns-in_err-write_files-clause-others g c = λ told.
    (files_alone (file_names c.args.files.now) _ _ (record { kept = c.write_files.ensures.others told; left = c.write_files.ensures.any_moment told })).kept

pub returns-in_err-write_files-clause-any_moment : goal.returns-in_err-write_files-clause-any_moment
returns-in_err-write_files-clause-any_moment g c = λ told.
    (files_alone (file_names c.args.files.now) _ _ (record { kept = c.write_files.ensures.others told; left = c.write_files.ensures.any_moment told })).left

pub returns-in_err-write_synced-clause-others : goal.returns-in_err-write_synced-clause-others
returns-in_err-write_synced-clause-others g c = λ told.
    (files_and_staged (file_names c.args.files.now) _ _ _ (record { kept = c.write_files.ensures.others told; left = c.write_files.ensures.any_moment told })
    (record { kept = c.write_synced.ensures.others told; left = c.write_synced.ensures.any_moment told })).kept

pub returns-in_err-write_synced-clause-any_moment : goal.returns-in_err-write_synced-clause-any_moment
returns-in_err-write_synced-clause-any_moment g c = λ told.
    (files_and_staged (file_names c.args.files.now) _ _ _ (record { kept = c.write_files.ensures.others told; left = c.write_files.ensures.any_moment told })
    (record { kept = c.write_synced.ensures.others told; left = c.write_synced.ensures.any_moment told })).left

pub returns-clause-prepared : goal.returns-clause-prepared
returns-clause-prepared g c = λ told.
    on_ok_weaker c.sync_names.result
    (λ durable. prepared c.args.files.now c.args.manifest.now _ (g.F.Folder.disk c.write_files.new.folder) (g.F.Folder.disk c.write_synced.new.folder) _ (c.requires.settled told) c.requires.no_staged
    (c.write_files.ensures.others told) (c.in_ok-write_files.ensures.written told) (c.write_synced.ensures.others told) (c.in_ok-write_synced.ensures.written told) (c.sync_names.ensures.kept told) durable)
    (c.sync_names.ensures.durable told)

pub returns-clause-others : goal.returns-clause-others
returns-clause-others g c = λ told.
    (files_staged_synced (file_names c.args.files.now) _ _ _ _ (record { kept = c.write_files.ensures.others told; left = c.write_files.ensures.any_moment told })
    (record { kept = c.write_synced.ensures.others told; left = c.write_synced.ensures.any_moment told })
    (call [] _ _ (λ d left. g.met.F.Folder.only_now c.write_synced.new.folder d told left) (c.sync_names.ensures.kept told) (c.sync_names.ensures.time told))).kept

pub returns-clause-any_moment : goal.returns-clause-any_moment
returns-clause-any_moment g c = λ told.
    (files_staged_synced (file_names c.args.files.now) _ _ _ _ (record { kept = c.write_files.ensures.others told; left = c.write_files.ensures.any_moment told })
    (record { kept = c.write_synced.ensures.others told; left = c.write_synced.ensures.any_moment told })
    (call [] _ _ (λ d left. g.met.F.Folder.only_now c.write_synced.new.folder d told left) (c.sync_names.ensures.kept told) (c.sync_names.ensures.time told))).left
