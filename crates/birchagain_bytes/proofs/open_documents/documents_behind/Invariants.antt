-- Those of the segments before this one are taken off.
use Rattle.std.proofs.Common.{◌≡◌, ◌+◌, drop}
use Rattle.qm_index.specs.Numbers.{document_count}
use Rattle.birchagain_bytes.proofs.open_documents.documents_behind.Given as goal

abbrev pub invariant-loop-segment : goal.invariant-loop-segment
invariant-loop-segment l = l.left + document_count l.segments ≡ l.all + document_count (drop l.segment-index l.segments)
