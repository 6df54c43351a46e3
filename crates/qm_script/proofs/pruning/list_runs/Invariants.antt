use Rattle.std.proofs.Common.{◌≡◌, ◌+◌, ℕ, ℤ, List, ◌++◌, drop, map, Option}
use Rattle.qm_script.specs.Parts.{document_count}
use Rattle.qm_script.specs.Pruned.{all_pruned, pruned_from}
use Rattle.qm_script.specs.Written.{ListsSoFar}
use Rattle.qm_weight.specs.Weights.{tree_of}
use Rattle.qm_script.proofs.pruning.list_runs.Given as goal

abbrev pub invariant-loop-segment : goal.invariant-loop-segment
invariant-loop-segment l = record {
  room : l.first + document_count (map (λ r. r.segment) (drop l.segment-index l.segments)) ≡ document_count (map (λ r. r.segment) l.segments);
  listed : (items : List (ℕ × Option ℤ)) × ListsSoFar items l.listing × (items ++ pruned_from l.threshold (tree_of l.weight) l.first
      (map (λ r. r.segment) (drop l.segment-index l.segments)) ≡ all_pruned l.threshold (tree_of l.weight) (map (λ r. r.segment) l.segments));
}
