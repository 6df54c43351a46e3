-- The documents of the segments so far are counted, and they are at most 4294967295 for each of these.
use Rattle.std.proofs.Common.{◌≡◌, ◌≤◌, ◌*◌, take}
use Rattle.qm_query.specs.TopDocs.{alive_in}
use Rattle.qm_query.proofs.top_docs.count_alive_documents.Given as goal

abbrev pub invariant-loop-reader : goal.invariant-loop-reader
invariant-loop-reader l = record {
  counted : l.count ≡ alive_in (take l.reader-index l.searcher.segments);
  fits : l.count ≤ 4294967295 * l.reader-index;
}
