use Rattle.std.proofs.Common.{◌≡◌, ◌++◌, ◌+◌, ◌≤◌, ◌*◌, All, drop}
use Rattle.qm_docset.specs.declared.numbers.TheConstants.{TERMINATED}
use Rattle.qm_script.specs.BestListed.{firsts_from}
use Rattle.qm_index.specs.Parts.{segments_of}
use Rattle.qm_script.specs.Parts.{document_count}
use Rattle.qm_script.specs.ProgramNumbers.{most_segments}
use Rattle.qm_script.proofs.best.first_numbers.Given as goal

abbrev pub invariant-loop-segment : goal.invariant-loop-segment
invariant-loop-segment l = record {
  numbers : l.firsts.items ++ firsts_from l.first (segments_of (drop l.segment-index l.segments)) ≡ firsts_from 0 (segments_of l.segments);
  room : l.first + document_count (segments_of (drop l.segment-index l.segments)) ≡ document_count (segments_of l.segments);
  few : All (λ n. n ≤ most_segments * TERMINATED) l.firsts.items;
}
