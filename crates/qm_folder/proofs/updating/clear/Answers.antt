use Rattle.std.proofs.Common.{[], refl}
use Rattle.std.proofs.lemmas.Result.{on_ok_weaker}
use Rattle.qm_folder.specs.Names.{names_of}
use Rattle.qm_folder.proofs.Runs.{Run, call, then_run}
use Rattle.qm_folder.proofs.Updates.{cleared}
use Rattle.qm_folder.proofs.updating.clear.Goals as goal

pub returns-clause-cleared : goal.returns-clause-cleared
returns-clause-cleared g c = λ told.
    on_ok_weaker c.sync_names.result
    (λ durable. cleared (names_of c.args.gone.now) _ (g.F.Folder.disk c.remove_all.new.folder) _ (c.requires.settled told) (c.remove_all.ensures.others told) (c.in_ok-remove_all.ensures.removed told) (c.sync_names.ensures.kept told) durable)
    (c.sync_names.ensures.durable told)

pub returns-clause-others : goal.returns-clause-others
returns-clause-others g c = λ told.
    let removed : Run (names_of c.args.gone.now) _ _ = record { kept = c.remove_all.ensures.others told; left = c.remove_all.ensures.any_moment told } in
    (then_run (names_of c.args.gone.now) [] (names_of c.args.gone.now) _ _ _ removed
    (call [] _ _ (λ d left. g.met.F.Folder.only_now c.remove_all.new.folder d told left) (c.sync_names.ensures.kept told) (c.sync_names.ensures.time told)) (λ n other. other) (λ n other. refl)).kept

pub returns-clause-any_moment : goal.returns-clause-any_moment
returns-clause-any_moment g c = λ told.
    let removed : Run (names_of c.args.gone.now) _ _ = record { kept = c.remove_all.ensures.others told; left = c.remove_all.ensures.any_moment told } in
    (then_run (names_of c.args.gone.now) [] (names_of c.args.gone.now) _ _ _ removed
    (call [] _ _ (λ d left. g.met.F.Folder.only_now c.remove_all.new.folder d told left) (c.sync_names.ensures.kept told) (c.sync_names.ensures.time told)) (λ n other. other) (λ n other. refl)).left
