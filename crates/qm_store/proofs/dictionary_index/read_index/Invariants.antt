use Rattle.std.proofs.Common.{◌≡◌, ◌-◌, ◌++◌, None, map, option_map, true}
use Rattle.qm_store.specs.Dictionary.{ascend, start_of, starts_at}
use Rattle.qm_store.proofs.ReadingOn.{last_first}
use Rattle.qm_store.proofs.dictionary_index.read_index.Given as goal

abbrev pub invariant-loop : goal.invariant-loop
invariant-loop l = record {
  whole : option_map (λ back. map start_of l.starts.items ++ back) (starts_at (l.count - l.counter) (last_first l.starts.items) l.rest)
      ≡ starts_at l.count None l.initial.rest;
  up : ascend None (map start_of l.starts.items) ≡ true;
}
