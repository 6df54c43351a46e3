-- The documents of the segments so far are counted, and they are at most 2147483647 for each of these.
use Rattle.std.proofs.Common.{◌≡◌, ◌≤◌, ◌*◌, take}
use Rattle.qm_docset.specs.declared.numbers.TheConstants.{TERMINATED}
use Rattle.qm_index.specs.Numbers.{document_count}
use Rattle.qm_index.proofs.addresses.count_documents.Given as goal

abbrev pub invariant-loop-reader : goal.invariant-loop-reader
invariant-loop-reader l = record {
  counted : l.count ≡ document_count (take l.reader-index l.readers);
  fits : l.count ≤ l.reader-index * TERMINATED;
}
