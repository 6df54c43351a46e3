use Rattle.std.proofs.Common.{◌-◌, ◌≡◌, ◌≤◌, length, nat_eq, take}
use Rattle.std.specs.List.{count_by}
use Rattle.qm_scorer.proofs.least_docs.LeastDocs.has_times.Given as goal

abbrev pub invariant-loop-count : goal.invariant-loop-count
invariant-loop-count l = record {
  within : l.place ≤ length l.self.docs.items;
  few : l.count ≤ l.place;
  counted : l.count ≡ count_by (λ d. nat_eq d l.doc) (take l.place l.self.docs.items);
}

abbrev pub decreases-loop-count : goal.decreases-loop-count
decreases-loop-count l = l.minimum - l.count
