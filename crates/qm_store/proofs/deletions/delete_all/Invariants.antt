use Rattle.std.proofs.Common.{◌≡◌, take}
use Rattle.qm_store.specs.Deletions.{deleting_only}
use Rattle.qm_store.proofs.deletions.delete_all.Given as goal

abbrev pub invariant-loop-number : goal.invariant-loop-number
invariant-loop-number l = l.segment ≡ deleting_only (take l.number-index l.numbers) l.fn.segment
