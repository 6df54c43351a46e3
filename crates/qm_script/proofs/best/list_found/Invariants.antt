use Rattle.std.proofs.Common.{map, take}
use Rattle.qm_script.specs.BestListed.{found_item}
use Rattle.qm_script.specs.Written.{ListsMore}
use Rattle.qm_script.proofs.best.list_found.Given as goal

abbrev pub invariant-loop-score : goal.invariant-loop-score
invariant-loop-score l = ListsMore (map (found_item l.firsts) (take l.score-index l.found)) l.fn.listing l.listing
