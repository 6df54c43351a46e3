use Rattle.qm_script.proofs.Decimals.{IsWrittenFrom}
use Rattle.qm_script.proofs.decimal.write_digits.Given as goal

abbrev pub invariant-loop-left : goal.invariant-loop-left
invariant-loop-left l = IsWrittenFrom l.number l.left l.end l.from l.initial.text l.text

abbrev pub decreases-loop-left : goal.decreases-loop-left
decreases-loop-left l = l.left
