-- The hits before this one are there.
use Rattle.std.proofs.Common.{◌≡◌, Some, map, take}
use Rattle.qm_script.specs.BestListed.{found_item}
use Rattle.qm_script.proofs.searching.hits_of.Given as goal

abbrev pub invariant-loop-score : goal.invariant-loop-score
invariant-loop-score l = map (λ h. (h.document, Some h.score)) l.hits.items ≡ map (found_item l.firsts) (take l.score-index l.found)
