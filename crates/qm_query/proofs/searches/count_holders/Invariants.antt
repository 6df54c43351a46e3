-- What is counted so far, and what the segments that are left have, are all of them together.
use Rattle.std.proofs.Common.{◌≡◌, ◌≤◌, ◌*◌, None, take}
use Rattle.qm_schema.specs.declared.schema.option.IndexRecordOption.TheVariants.{Basic}
use Rattle.qm_weight.specs.Tree.{term as leaf_of}
use Rattle.qm_query.specs.Searches.{count_in}
use Rattle.qm_query.proofs.searches.count_holders.Given as goal

abbrev pub invariant-loop-reader : goal.invariant-loop-reader
invariant-loop-reader l = record {
  counted : l.count ≡ count_in (leaf_of l.term Basic None) (take l.reader-index l.searcher.segments);
  fits : l.count ≤ 4294967295 * l.reader-index;
}
