use Rattle.std.proofs.Common.{◌<◌, ◌+◌, ◌*◌, ◌^◌}
use Rattle.birchagain.proofs.weights.log_in_thousandths.Given as goal

abbrev pub invariant-loop-bit : goal.invariant-loop-bit
invariant-loop-bit l = l.log < (l.power + 1) * 2 ^ l.bit
