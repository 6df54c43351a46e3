use Rattle.std.proofs.Common.{◌≡◌, map}
use Rattle.std.specs.List.{range_with_len}
use Rattle.qm_postings.specs.Segment.{is_alive}
use Rattle.qm_merge.specs.AliveRows.{new_number}
use Rattle.qm_merge.proofs.AlivePlaces.{rank}
use Rattle.qm_merge.proofs.new_numbers.new_numbers.Given as goal

abbrev pub invariant-loop-doc : goal.invariant-loop-doc
invariant-loop-doc l = record {
  numbers : l.numbers.items ≡ map (new_number l.segment.segment) (range_with_len 0 l.doc);
  next : l.next ≡ rank (is_alive l.segment.segment) l.doc;
}
