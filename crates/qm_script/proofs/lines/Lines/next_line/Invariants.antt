use Rattle.std.proofs.Common.{◌≡◌, List, ℕ, ◌++◌, Some, IfSome, false}
use Rattle.qm_script.specs.Lines.{pending, has_break}
use Rattle.qm_script.proofs.lines.Lines.next_line.Given as goal

abbrev pub invariant-loop : goal.invariant-loop
invariant-loop g l = record {
  unbroken : has_break l.line.items ≡ false;
  carried : IfSome (pending l.fn.self (g.R.Read.remaining l.fn.input))
      (λ bytes. (rest : List ℕ) × (pending l.self (g.R.Read.remaining l.input) ≡ Some rest) × (bytes ≡ l.line.items ++ rest));
}
