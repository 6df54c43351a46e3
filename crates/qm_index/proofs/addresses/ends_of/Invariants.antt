use Rattle.std.proofs.Common.{◌≡◌, ◌≤◌, ◌*◌, take}
use Rattle.qm_docset.specs.declared.numbers.TheConstants.{TERMINATED}
use Rattle.qm_index.specs.Numbers.{document_count, ends_from}
use Rattle.qm_index.proofs.addresses.ends_of.Given as goal

abbrev pub invariant-loop-reader : goal.invariant-loop-reader
invariant-loop-reader l = record {
  ends : l.ends.items ≡ ends_from 0 (take l.reader-index l.readers);
  counted : l.end ≡ document_count (take l.reader-index l.readers);
  fits : l.end ≤ l.reader-index * TERMINATED;
}
