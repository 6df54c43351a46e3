use Rattle.std.proofs.Common.{◌≡◌, ◌+◌, take}
use Rattle.qm_index.specs.Numbers.{document_count}
use Rattle.qm_index.proofs.addresses.address_among.Given as goal

abbrev pub invariant-loop-reader : goal.invariant-loop-reader
invariant-loop-reader l = record {
  ord : l.segment_ord ≡ l.fn.first_ord + l.reader-index;
  left : document_count (take l.reader-index l.readers) + l.left ≡ l.fn.number;
}
