use Rattle.std.proofs.Common.{length, ◌∙◌}
use Rattle.std.proofs.lemmas.Result.{err_from_is_err_and}
use Rattle.qm_store.specs.Deletions.{deletions_read}
use Rattle.qm_index.proofs.OpenRefusals.{fails-memory, memory-refusal}
use Rattle.qm_index.proofs.OpenedFiles.{told-deleted, told-read}
use Rattle.qm_index.proofs.stored_files.delete_told.Goals as goal

pub returns-clause-told : goal.returns-clause-told
returns-clause-told g c = λ told s is file.
    told-deleted (g.F.Folder.disk c.args.folder.now).seen c.args.key c.args.number s c.as_str.result.now c.in_ok-bytes.bytes.items c.deref.result.now
    c.args.segment.now c.delete_stored.new.segment c.ranges.key.fits file (c.as_str.ensures.value ∙ c.in_ok-name.ensures)
    (c.in_ok-bytes.ensures.bytes told) c.deref.ensures.value is c.in_ok-delete_stored.ensures.read c.delete_stored.ensures.others

pub returns-in_err-delete_stored-clause-refused : goal.returns-in_err-delete_stored-clause-refused
returns-in_err-delete_stored-clause-refused g c = λ told s is file.
    let p = err_from_is_err_and c.from_residual-in_err-delete_stored.result c.from_residual-in_err-delete_stored.ensures.1 in
    let e = c.in_err-delete_stored.field-0.0 in
    let old = c.args.segment.now in
    let read = told-read (g.F.Folder.disk c.args.folder.now).seen c.args.key c.args.number s c.as_str.result.now c.in_ok-bytes.bytes.items c.deref.result.now
    old c.ranges.key.fits file (c.as_str.ensures.value ∙ c.in_ok-name.ensures) (c.in_ok-bytes.ensures.bytes told) c.deref.ensures.value is in
    rw (p.1, p.2) (memory-refusal e (fails-memory e s.deleted (deletions_read c.args.key (length old.segment.documents) c.deref.result.now) read
    c.in_err-delete_stored.ensures.read))
