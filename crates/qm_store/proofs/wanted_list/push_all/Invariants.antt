use Rattle.std.proofs.Common.{◌≡◌, ◌++◌, map}
use Rattle.qm_store.proofs.WantedApart.{wanted_so}
use Rattle.qm_store.proofs.wanted_list.push_all.Given as goal

abbrev pub invariant-loop-term : goal.invariant-loop-term
invariant-loop-term l = l.wanted.items ≡ l.fn.wanted.items ++ map (wanted_so l.is_beginning) l.yielded
