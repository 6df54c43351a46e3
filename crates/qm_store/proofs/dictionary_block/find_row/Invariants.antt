use Rattle.std.proofs.Common.{◌≡◌, ◌-◌, option_map}
use Rattle.qm_store.specs.Dictionary.{entries_at, row_with}
use Rattle.qm_store.specs.Entries.{lent_part}
use Rattle.qm_store.proofs.ReadingOn.{or_else_among}
use Rattle.qm_store.proofs.dictionary_block.find_row.Given as goal

abbrev pub invariant-loop : goal.invariant-loop
invariant-loop l = record {
  whole : option_map (or_else_among l.term (option_map (λ p. (lent_part p.0, lent_part p.1)) l.found)) (entries_at (l.count - l.counter) l.rest)
      ≡ option_map (row_with l.term) (entries_at l.count l.initial.rest);
}
