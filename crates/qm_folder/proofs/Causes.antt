-- A call is refused where the folder has failed since, and so is a run that it ends.
use Rattle.std.proofs.Common.{◌≤◌, Result, Ok, arith}
use Rattle.qm_folder.specs.Disk.{Disk}
use Rattle.qm_folder.specs.Calls.{HasCause}
use Rattle.qm_folder.specs.declared.folder_error.FolderError.{FolderError}

pub cause_after : {T : Type 0} (old mid new : Disk) (result : Result T FolderError) → old.faults ≤ mid.faults → HasCause mid new result → HasCause old new result
cause_after old mid new result earlier cause = record { later = omega (arith, earlier, cause.later); failed = λ told. let later = cause.failed told in omega (arith, earlier, later) }

pub no_cause : {T : Type 0} (old new : Disk) (x : T) → old.faults ≤ new.faults → HasCause old new (Ok x)
no_cause old new x later = record { later = later; failed = λ told. cc told }
