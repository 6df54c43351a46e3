-- The ended segments have the documents that they had.
use Rattle.std.proofs.Common.{◌≡◌, ◌≤◌, length}
use Rattle.qm_folder.specs.Disk.{Contents}
use Rattle.qm_index.specs.Indexed.{IsMerged, IsRefreshed, indexed, statistics}
use Rattle.qm_index.specs.Joining.{HaveSameDocuments}
use Rattle.qm_index.specs.Saving.{IsKeptIn}
use Rattle.qm_index.proofs.index.Index.join_small_segments.Given as goal

abbrev pub invariant-loop-alloc : goal.invariant-loop-alloc
invariant-loop-alloc l = record {
  numbers : HaveSameDocuments (indexed l.fn.self).ended (indexed l.self).ended;
  current : (indexed l.self).current ≡ (indexed l.fn.self).current;
  fewer : length (indexed l.self).ended ≤ length (indexed l.fn.self).ended;
  statistics : statistics l.self ≡ statistics l.fn.self;
  refreshed : IsRefreshed l.fn.self → IsRefreshed l.self;
  merged : IsMerged l.fn.self → IsMerged l.self;
  kept : (c : Contents) → IsKeptIn l.fn.self c → IsKeptIn l.self c;
}

abbrev pub decreases-loop-alloc : goal.decreases-loop-alloc
decreases-loop-alloc l = length (indexed l.self).ended
