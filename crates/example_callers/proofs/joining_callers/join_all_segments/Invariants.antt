-- The ended segments have the documents that they had.
use Rattle.std.proofs.Common.{◌≡◌, length}
use Rattle.qm_folder.specs.Disk.{Contents}
use Rattle.qm_index.specs.Indexed.{indexed, statistics}
use Rattle.qm_index.specs.Joining.{HaveSameDocuments}
use Rattle.qm_index.specs.Saving.{IsKeptIn}
use Rattle.example_callers.proofs.joining_callers.join_all_segments.Given as goal

abbrev pub invariant-loop : goal.invariant-loop
invariant-loop l = record {
  numbers : HaveSameDocuments (indexed l.fn.index).ended (indexed l.index).ended;
  statistics : statistics l.index ≡ statistics l.fn.index;
  kept : (c : Contents) → IsKeptIn l.fn.index c → IsKeptIn l.index c;
}

abbrev pub decreases-loop : goal.decreases-loop
decreases-loop l = length (indexed l.index).ended
