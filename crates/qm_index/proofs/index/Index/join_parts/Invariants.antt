-- The open segment has the documents that it had.
use Rattle.std.proofs.Common.{◌≡◌, ◌<◌, length}
use Rattle.qm_index.specs.Indexed.{IsRefreshed, indexed, statistics}
use Rattle.qm_index.proofs.index.Index.join_parts.Given as goal

abbrev pub invariant-loop-alloc : goal.invariant-loop-alloc
invariant-loop-alloc l = record {
  documents : indexed l.self ≡ indexed l.fn.self;
  statistics : statistics l.self ≡ statistics l.fn.self;
  saved : l.self.saved ≡ l.fn.self.saved;
  ended : l.self.ended ≡ l.fn.self.ended;
  refreshed : IsRefreshed l.fn.self → IsRefreshed l.self;
  some : l.fn.self.ended < length l.fn.self.searcher.segments → l.self.ended < length l.self.searcher.segments;
}

abbrev pub decreases-loop-alloc : goal.decreases-loop-alloc
decreases-loop-alloc l = length l.self.searcher.segments
