-- Nothing is known of a folder of the system.
use Rattle.std.specs.Prelude.{None}
use Rattle.qm_folder.specs.Disk.{Disk}

abbrev pub untold : Disk
untold = record { seen = λ n. None; may_leave = λ n c. ⊥; written = λ n. ⊥; moment = 0; left_since = λ t c. ⊥; faults = 0 }
