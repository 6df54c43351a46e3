use Rattle.std.proofs.lemmas.Result.{on_ok_weaker}
use Rattle.qm_folder.proofs.Commits.{committed, committing, renaming}
use Rattle.qm_folder.proofs.updating.commit.Goals as goal

pub returns-in_err-rename-clause-any_moment : goal.returns-in_err-rename-clause-any_moment
returns-in_err-rename-clause-any_moment g c = λ told.
    renaming _ _ (λ d left. g.met.F.Folder.only_now c.args.folder.now d told left) (c.rename.ensures.moves told) (c.rename.ensures.time told)

pub returns-clause-any_moment : goal.returns-clause-any_moment
returns-clause-any_moment g c = λ told.
    committing _ _ _ (λ d left. g.met.F.Folder.only_now c.args.folder.now d told left) (λ d left. g.met.F.Folder.only_now c.rename.new.self d told left)
    (c.rename.ensures.moves told) (c.rename.ensures.time told) (c.sync_names.ensures.kept told) (c.sync_names.ensures.time told)

pub returns-clause-committed : goal.returns-clause-committed
returns-clause-committed g c = λ told.
    on_ok_weaker c.sync_names.result
    (λ durable. committed _ (g.F.Folder.disk c.rename.new.self) _ (c.requires.settled told) (c.requires.written told) (c.in_ok-rename.ensures.renamed told) (c.rename.ensures.moves told) (c.sync_names.ensures.kept told) durable)
    (c.sync_names.ensures.durable told)
