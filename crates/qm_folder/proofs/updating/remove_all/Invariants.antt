use Rattle.std.specs.String.{string_bytes}
use Rattle.qm_folder.specs.Calls.{IsRemoved}
use Rattle.qm_folder.proofs.Runs.{HasDone}
use Rattle.qm_folder.proofs.updating.remove_all.Given as goal

abbrev pub invariant-loop-name : goal.invariant-loop-name
invariant-loop-name g l =
    g.F.Folder.is_told → HasDone string_bytes (λ n d. IsRemoved (string_bytes n) d) l.gone l.name-index (g.F.Folder.disk l.initial.folder) (g.F.Folder.disk l.folder)
