use Rattle.std.proofs.Common.{drop}
use Rattle.qm_folder.specs.Names.{AreDistinct, names_of}
use Rattle.qm_folder.proofs.GivenNames.{AreLeft}
use Rattle.qm_folder.proofs.replay.names_after.Given as goal

abbrev pub invariant-loop-call : goal.invariant-loop-call
invariant-loop-call l = record { left : AreLeft l.calls (names_of l.names.items) (drop l.call-index l.calls); once : AreDistinct (names_of l.names.items) }
