use Rattle.std.proofs.Common.{◌≡◌, ◌≤◌, All, drop, length}
use Rattle.qm_phrase.proofs.prefix.length_without_trailing_max.Given as goal

abbrev pub invariant-loop-length : goal.invariant-loop-length
invariant-loop-length l = record { within : l.length ≤ length l.text; trailing : All (λ byte. byte ≡ 255) (drop l.length l.text) }

abbrev pub decreases-loop-length : goal.decreases-loop-length
decreases-loop-length l = l.length
