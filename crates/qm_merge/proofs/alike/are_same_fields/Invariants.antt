use Rattle.std.proofs.Common.{◌≡◌, take}
use Rattle.qm_merge.proofs.alike.are_same_fields.Given as goal

abbrev pub invariant-loop-id : goal.invariant-loop-id
invariant-loop-id l = take l.id l.first ≡ take l.id l.second
