use Rattle.std.proofs.Common.{drop, take}
use Rattle.qm_folder.specs.Names.{file_names, names_of}
use Rattle.qm_folder.proofs.CleanNames.{AreLeft, AreTaken}
use Rattle.qm_folder.proofs.names.is_clean.Given as goal

abbrev pub invariant-loop-file : goal.invariant-loop-file
invariant-loop-file l = AreTaken l.names.keys (file_names (take l.file-index l.files))

abbrev pub invariant-loop-name : goal.invariant-loop-name
invariant-loop-name l = AreLeft (file_names l.files) (names_of l.gone) (names_of (drop l.name-index l.gone))
