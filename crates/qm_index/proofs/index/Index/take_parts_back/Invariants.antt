use Rattle.std.proofs.Common.{◌≡◌, length}
use Rattle.qm_index.specs.Indexed.{indexed, statistics}
use Rattle.qm_index.proofs.index.Index.take_parts_back.Given as goal

abbrev pub invariant-loop-self : goal.invariant-loop-self
invariant-loop-self l = record {
  documents : indexed l.self ≡ indexed l.fn.self;
  statistics : statistics l.self ≡ statistics l.fn.self;
  ended : l.self.ended ≡ l.fn.self.ended;
  saved : l.self.saved ≡ l.fn.self.saved;
}

abbrev pub decreases-loop-self : goal.decreases-loop-self
decreases-loop-self l = length l.self.searcher.segments
