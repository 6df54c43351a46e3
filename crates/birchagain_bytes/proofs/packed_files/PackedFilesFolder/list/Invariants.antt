-- The names before those that are left are there.
use Rattle.std.proofs.Common.{◌≡◌, ◌++◌}
use Rattle.std.specs.Map.{keys_of}
use Rattle.qm_folder.specs.Names.{names_of}
use Rattle.birchagain_bytes.proofs.packed_files.PackedFilesFolder.list.Given as goal

abbrev pub invariant-loop-name : goal.invariant-loop-name
invariant-loop-name l = names_of l.names.items ++ names_of l.name-iterator ≡ names_of (keys_of l.fn.self.files.entries)
