use Rattle.std.proofs.Common.{◌≡◌, ◌+◌, ℕ, ℤ, List, ◌++◌, drop, map, Option}
use Rattle.qm_script.specs.Parts.{document_count}
use Rattle.qm_script.specs.Pruned.{parts_pruned}
use Rattle.qm_script.specs.Written.{ListsMore}
use Rattle.qm_weight.specs.Weights.{tree_of}
use Rattle.qm_script.proofs.pruning.list_parts.Given as goal

abbrev pub invariant-loop-part : goal.invariant-loop-part
invariant-loop-part l = record {
  room : l.next + document_count (map (λ r. r.segment) (drop l.part-index l.parts)) ≡ l.first + document_count (map (λ r. r.segment) l.parts);
  listed : (found : List (ℕ × Option ℤ)) × ListsMore found l.fn.listing l.listing × (found ++ parts_pruned l.left (tree_of l.weight) l.next
      (map (λ r. r.segment) (drop l.part-index l.parts)) ≡ parts_pruned l.threshold (tree_of l.weight) l.first (map (λ r. r.segment) l.parts));
}
