use Rattle.std.proofs.Common.{◌≡◌, ◌++◌, length}
use Rattle.std.specs.List.{AllWithin}
use Rattle.qm_store.specs.Stored.{IsStorable, all_apart, entries_bytes}
use Rattle.qm_store.proofs.StoredSteps.{between}
use Rattle.qm_store.proofs.stored_bytes.push_entries.Given as goal

abbrev pub invariant-loop-place : goal.invariant-loop-place
invariant-loop-place l = record {
  out : l.out.items ++ all_apart (between l.segment.rows l.place l.end) ≡ l.fn.out.items ++ all_apart (between l.segment.rows l.start l.end);
  block : l.block.items ++ entries_bytes l.key (length l.out.items) (between l.segment.rows l.place l.end)
      ≡ l.fn.block.items ++ entries_bytes l.key (length l.fn.out.items) (between l.segment.rows l.start l.end);
  storable : AllWithin IsStorable l.segment.rows l.start l.place;
}
