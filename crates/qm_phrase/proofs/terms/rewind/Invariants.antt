use Rattle.std.proofs.Common.{◌≡◌, ◌++◌, map, take, drop}
use Rattle.qm_phrase.specs.Terms.{unpassed}
use Rattle.qm_phrase.proofs.terms.rewind.Given as goal

abbrev pub invariant-loop-row : goal.invariant-loop-row
invariant-loop-row l = l.rows ≡ map unpassed (take l.row-index l.fn.rows) ++ drop l.row-index l.fn.rows
