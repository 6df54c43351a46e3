use Rattle.std.proofs.Common.{◌≡◌, ◌*◌, ◌++◌, ◌≤◌, map, sum, take}
use Rattle.std.specs.List.{range_with_len}
use Rattle.qm_postings.specs.Frequencies.{listed}
use Rattle.qm_postings.specs.Kept.{block_info}
use Rattle.qm_postings.proofs.segment_builder.term_blocks.push_blocks.Given as goal

abbrev pub invariant-loop-block : goal.invariant-loop-block
invariant-loop-block l = record {
  pushed : l.infos.items ≡ l.fn.infos.items ++ map (block_info l.block_len l.ids l.documents (listed l.frequencies)) (range_with_len 0 l.block);
  start : l.positions_start ≡ sum (take (l.block * l.block_len) (listed l.frequencies));
  fits : l.positions_start ≤ l.block * l.block_len * 4294967295;
}
