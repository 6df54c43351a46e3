use Rattle.std.proofs.Common.{inl, inr, rules}
use Rattle.std.proofs.lemmas.Result.{on_ok_weaker}
use Rattle.qm_folder.specs.Calls.{HasCause}
use Rattle.qm_folder.specs.Update.{change}
use Rattle.qm_folder.proofs.Causes.{cause_after}
use Rattle.qm_folder.proofs.Index.{leaves_index}
use Rattle.qm_folder.proofs.Updates.{after_all, after_commit, first_part, second_part, seen_then, third_part, updated}
use Rattle.qm_folder.proofs.updating.update.Goals as goal

pub prepare-requires : goal.prepare-requires
prepare-requires g c = record { settled = c.requires.settled; distinct = c.requires.clean.distinct; no_staged = c.requires.clean.no_staged }

pub commit-requires : goal.commit-requires
commit-requires g c = record {
  settled = λ told. (c.in_ok-prepare.ensures.prepared told).settled;
  there = λ told. let stands = (c.in_ok-prepare.ensures.prepared told).staged.stands in search rules;
  written = λ told. (c.in_ok-prepare.ensures.prepared told).staged.written;
}

pub clear-requires : goal.clear-requires
clear-requires g c = record { settled = λ told. (c.in_ok-commit.ensures.committed told).settled }

pub returns-in_err-prepare-clause-any_moment : goal.returns-in_err-prepare-clause-any_moment
returns-in_err-prepare-clause-any_moment g c = λ told.
    let it = change c.args.files.now c.args.manifest.now c.args.gone.now in
    first_part it _ c.requires.clean _ (c.requires.settled told) (c.prepare.ensures.any_moment told)

pub returns-in_err-prepare-clause-index : goal.returns-in_err-prepare-clause-index
returns-in_err-prepare-clause-index g c = λ told. leaves_index (change c.args.files.now c.args.manifest.now c.args.gone.now) _ _ c.requires.clean (returns-in_err-prepare-clause-any_moment g c told)

pub returns-in_err-prepare-clause-seen : goal.returns-in_err-prepare-clause-seen
returns-in_err-prepare-clause-seen g c = λ told. inl (c.prepare.ensures.others told).seen

pub returns-in_err-commit-clause-any_moment : goal.returns-in_err-commit-clause-any_moment
returns-in_err-commit-clause-any_moment g c = λ told.
    let it = change c.args.files.now c.args.manifest.now c.args.gone.now in
    second_part it _ c.requires.clean _ _ (c.in_ok-prepare.ensures.prepared told) (c.prepare.ensures.others told)
    (first_part it _ c.requires.clean _ (c.requires.settled told) (c.prepare.ensures.any_moment told)) (c.commit.ensures.any_moment told)

pub returns-in_err-commit-clause-index : goal.returns-in_err-commit-clause-index
returns-in_err-commit-clause-index g c = λ told. leaves_index (change c.args.files.now c.args.manifest.now c.args.gone.now) _ _ c.requires.clean (returns-in_err-commit-clause-any_moment g c told)

pub returns-in_err-commit-clause-seen : goal.returns-in_err-commit-clause-seen
returns-in_err-commit-clause-seen g c = λ told.
    let it = change c.args.files.now c.args.manifest.now c.args.gone.now in
    seen_then it _ c.requires.clean _ _ (c.in_ok-prepare.ensures.prepared told) (c.prepare.ensures.others told) (c.commit.ensures.moves told)

pub returns-in_err-commit-clause-failed : goal.returns-in_err-commit-clause-failed
returns-in_err-commit-clause-failed g c = λ told.
    let ends : HasCause (g.F.Folder.disk c.prepare.new.folder) (g.F.Folder.disk c.commit.new.folder) c.from_residual-in_err-commit.result = search rules in
    cause_after _ _ _ c.from_residual-in_err-commit.result (c.prepare.ensures.cause told).later ends

pub returns-clause-acknowledged : goal.returns-clause-acknowledged
returns-clause-acknowledged g c = λ told.
    let it = change c.args.files.now c.args.manifest.now c.args.gone.now in
    let committed = c.in_ok-commit.ensures.committed told in
    let after = after_commit it _ c.requires.clean _ _ (c.in_ok-prepare.ensures.prepared told) (c.prepare.ensures.others told) (c.commit.ensures.moves told) committed in
    on_ok_weaker c.clear.result (λ cleared. updated it _ c.requires.clean _ _ after committed.settled (c.clear.ensures.others told) committed.away cleared) (c.clear.ensures.cleared told)

pub returns-clause-any_moment : goal.returns-clause-any_moment
returns-clause-any_moment g c = λ told.
    let it = change c.args.files.now c.args.manifest.now c.args.gone.now in
    let committed = c.in_ok-commit.ensures.committed told in
    let after = after_commit it _ c.requires.clean _ _ (c.in_ok-prepare.ensures.prepared told) (c.prepare.ensures.others told) (c.commit.ensures.moves told) committed in
    let first = first_part it _ c.requires.clean _ (c.requires.settled told) (c.prepare.ensures.any_moment told) in
    let second = second_part it _ c.requires.clean _ _ (c.in_ok-prepare.ensures.prepared told) (c.prepare.ensures.others told) first (c.commit.ensures.any_moment told) in
    third_part it _ c.requires.clean _ _ after committed.settled second (c.clear.ensures.any_moment told)

pub returns-clause-index : goal.returns-clause-index
returns-clause-index g c = λ told. leaves_index (change c.args.files.now c.args.manifest.now c.args.gone.now) _ _ c.requires.clean (returns-clause-any_moment g c told)

pub returns-clause-seen : goal.returns-clause-seen
returns-clause-seen g c = λ told.
    let it = change c.args.files.now c.args.manifest.now c.args.gone.now in
    let committed = c.in_ok-commit.ensures.committed told in
    let after = after_commit it _ c.requires.clean _ _ (c.in_ok-prepare.ensures.prepared told) (c.prepare.ensures.others told) (c.commit.ensures.moves told) committed in
    inr (after_all it _ c.requires.clean _ _ after committed.settled (c.clear.ensures.others told))

pub returns-clause-failed : goal.returns-clause-failed
returns-clause-failed g c = λ told.
    let prepared = g.F.Folder.disk c.prepare.new.folder in
    let committed = g.F.Folder.disk c.commit.new.folder in
    let later = cause_after prepared committed _ c.clear.result (c.commit.ensures.cause told).later (c.clear.ensures.cause told) in
    cause_after _ prepared _ c.clear.result (c.prepare.ensures.cause told).later later
