use Rattle.qm_folder.specs.Names.{file_name}
use Rattle.qm_folder.specs.Steps.{IsWritten}
use Rattle.qm_folder.proofs.Runs.{HasDone}
use Rattle.qm_folder.proofs.updating.write_files.Given as goal

abbrev pub invariant-loop-file : goal.invariant-loop-file
invariant-loop-file g l =
    g.F.Folder.is_told → HasDone file_name (λ f d. IsWritten (file_name f) f.bytes.items d) l.files l.file-index (g.F.Folder.disk l.initial.folder) (g.F.Folder.disk l.folder)
