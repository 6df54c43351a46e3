-- Those of the segments before this one are counted, and no more than these have documents.
use Rattle.std.proofs.Common.{◌≡◌, ◌≤◌, ◌+◌, ◌*◌, drop}
use Rattle.qm_docset.specs.declared.numbers.TheConstants.{TERMINATED}
use Rattle.qm_index.specs.Numbers.{document_count}
use Rattle.qm_index.specs.Parts.{segments_of}
use Rattle.birchagain.specs.Holding.{holder_count}
use Rattle.birchagain.proofs.holders.count_holders.Given as goal

abbrev pub invariant-loop-segment : goal.invariant-loop-segment
invariant-loop-segment l = record {
  counted : l.count + holder_count l.term (segments_of (drop l.segment-index l.segments)) ≡ holder_count l.term (segments_of l.segments);
  fits : l.count + document_count (drop l.segment-index l.segments) ≤ 4294967295 * TERMINATED;
}
