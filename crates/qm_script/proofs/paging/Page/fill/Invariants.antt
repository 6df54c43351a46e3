-- What the segments that are left have is still to be taken.
use Rattle.std.proofs.Common.{◌≡◌, ◌≤◌, ◌+◌, ◌++◌, drop, filter, length, map, nat_le, take}
use Rattle.qm_script.specs.BestListed.{alive_numbers}
use Rattle.qm_script.specs.Parts.{document_count}
use Rattle.qm_weight.specs.Weights.{tree_of}
use Rattle.qm_script.proofs.Pages.{numbers_from}
use Rattle.qm_script.proofs.paging.Page.fill.Given as goal

abbrev pub invariant-loop-segment : goal.invariant-loop-segment
invariant-loop-segment l = record {
  first : l.self.from ≡ l.fn.self.from;
  limit : l.self.limit ≡ l.fn.self.limit;
  limited : length l.self.documents.items ≤ l.self.limit;
  room : l.first + document_count (map (λ r. r.segment) (drop l.segment-index l.segments)) ≡ document_count (map (λ r. r.segment) l.segments);
  left : take l.fn.self.limit (l.self.documents.items ++ filter (nat_le l.fn.self.from) (numbers_from (tree_of l.weight) l.first
      (map (λ r. r.segment) (drop l.segment-index l.segments))))
      ≡ take l.fn.self.limit (l.fn.self.documents.items ++ filter (nat_le l.fn.self.from) (alive_numbers (tree_of l.weight) (map (λ r. r.segment) l.segments)));
}
