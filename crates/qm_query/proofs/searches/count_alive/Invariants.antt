-- What is counted so far, and what the segments that are left have, are all of them together.
use Rattle.std.proofs.Common.{◌≡◌, ◌≤◌, ◌*◌, take}
use Rattle.qm_weight.specs.Weights.{tree_of}
use Rattle.qm_query.specs.Searches.{count_in}
use Rattle.qm_query.proofs.searches.count_alive.Given as goal

abbrev pub invariant-loop-reader : goal.invariant-loop-reader
invariant-loop-reader l = record {
  counted : l.count ≡ count_in (tree_of l.weight) (take l.reader-index l.searcher.segments);
  fits : l.count ≤ 4294967295 * l.reader-index;
}
