use Rattle.std.proofs.Common.{◌≡◌, drop}
use Rattle.qm_folder.specs.Names.{is_among, names_of}
use Rattle.qm_folder.proofs.names.is_there.Given as goal

abbrev pub invariant-loop-other : goal.invariant-loop-other
invariant-loop-other l = is_among (names_of l.names) l.name ≡ is_among (names_of (drop l.other-index l.names)) l.name
