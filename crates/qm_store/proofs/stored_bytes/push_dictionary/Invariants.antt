use Rattle.std.proofs.Common.{◌≡◌, ◌*◌, ◌++◌, length, min}
use Rattle.std.specs.List.{AllWithin, flat_map}
use Rattle.qm_store.specs.Numbers.{spelled}
use Rattle.qm_store.specs.Stored.{IsStorable, blocks_named, dictionary_bytes, group_count, rows_bytes, start_bytes, stored_blocks}
use Rattle.qm_store.proofs.StoredSteps.{groups_left}
use Rattle.qm_store.proofs.stored_bytes.push_dictionary.Given as goal

abbrev pub invariant-loop-number : goal.invariant-loop-number
invariant-loop-number l = record {
  out : l.out.items ++ dictionary_bytes l.key (length l.out.items) (groups_left l.segment.rows l.number) ≡ rows_bytes l.key l.segment.rows;
  index : l.index.items ++ flat_map start_bytes (blocks_named l.key (length l.out.items) (groups_left l.segment.rows l.number))
      ≡ spelled (group_count l.segment.rows) ++ flat_map start_bytes (stored_blocks l.key l.segment.rows);
  storable : AllWithin IsStorable l.segment.rows 0 (min (l.number * 128) (length l.segment.rows));
}
