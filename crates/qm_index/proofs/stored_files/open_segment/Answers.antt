-- The file tells what is deleted, and there is none where nothing is.
use Rattle.std.proofs.Common.{◌≡◌, ◌≢◌, ℕ, [], ap, arith, inl, inr, sym, ◌∙◌}
use Rattle.std.proofs.lemmas.Result.{err_from_is_err_and}
use Rattle.qm_folder.specs.Disk.{Contents}
use Rattle.qm_postings.specs.Reading.{Reader}
use Rattle.qm_postings.specs.Segment.{Segment, without}
use Rattle.qm_index.specs.SavedIndex.{IsDeletionsFile, TellsDeleted}
use Rattle.qm_index.proofs.OpenedFiles.{held-seen}
use Rattle.qm_index.proofs.stored_files.open_segment.Goals as goal
use Rattle.qm_index.proofs.stored_files.open_segment.Goals.{then-kept-ne0+in_ok-delete_told, else-kept-ne0}

nothing-told : (c : Contents) (key number : ℕ) (s : Segment) → number ≡ 0 → TellsDeleted c key number s → without [] s ≡ s
nothing-told c key number s zero (inl none) = ap (λ ns. without ns s) (sym none.none)
nothing-told c key number s zero (inr file) = absurd (omega (arith, zero, file.some))

something-told : (c : Contents) (key number : ℕ) (s : Segment) → number ≢ 0 → TellsDeleted c key number s → IsDeletionsFile c key number s
something-told c key number s some (inl none) = absurd (some none.no_file)
something-told c key number s some (inr file) = file

pub returns-clause-opened : goal.returns-clause-opened
returns-clause-opened g c = λ told s fields is.
    let old = g.F.Folder.disk c.args.folder.now in
    let k = c.args.kept.now in
    let mid = g.F.Folder.disk c.open_whole.new.folder in
    let now = held-seen k s old mid (c.open_whole.ensures.kept told) is in
    let whole = c.in_ok-segment.ensures.opened told s fields is.file in
    elim c.if-kept-ne0.branch [
      | then-kept-ne0+in_ok-delete_told w ↦ ap (λ (r : Reader). r.segment) w.segment-is
          ∙ w.in_ok-delete_told.ensures.told told s whole (something-told mid.seen k.key k.deletions s w.if-kept-ne0.true now.deleted)
      | else-kept-ne0 w ↦ ap (λ (r : Reader). r.segment) w.segment-is ∙ whole ∙ nothing-told mid.seen k.key k.deletions s w.if-kept-ne0.false now.deleted
    ]

pub returns-in_err-segment-clause-refused : goal.returns-in_err-segment-clause-refused
returns-in_err-segment-clause-refused g c = λ told s fields is.
    let p = err_from_is_err_and c.from_residual.result c.from_residual.ensures.1 in
    rw (p.1, p.2) (c.in_err-segment.ensures.refused told s fields is.file)

pub returns-in_err-delete_told-clause-refused : goal.returns-in_err-delete_told-clause-refused
returns-in_err-delete_told-clause-refused g c = λ told s fields is.
    let p = err_from_is_err_and c.from_residual-in_err-delete_told.result c.from_residual-in_err-delete_told.ensures.1 in
    let old = g.F.Folder.disk c.args.folder.now in
    let k = c.args.kept.now in
    let mid = g.F.Folder.disk c.open_whole.new.folder in
    let now = held-seen k s old mid (c.open_whole.ensures.kept told) is in
    let whole = c.in_ok-segment.ensures.opened told s fields is.file in
    rw (p.1, p.2) (c.in_err-delete_told.ensures.refused told s whole (something-told mid.seen k.key k.deletions s c.if-kept-ne0.true now.deleted))
