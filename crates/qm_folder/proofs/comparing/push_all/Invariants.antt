use Rattle.std.proofs.Common.{◌≡◌, ◌++◌, ◌-◌}
use Rattle.std.specs.List.{range_with_len}
use Rattle.qm_folder.proofs.comparing.push_all.Given as goal

abbrev pub invariant-loop-place : goal.invariant-loop-place
invariant-loop-place l = l.places.items ++ range_with_len l.place (l.fn.end - l.place) ≡ l.initial.places.items ++ range_with_len l.fn.from (l.fn.end - l.fn.from)
