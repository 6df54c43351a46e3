use Rattle.std.proofs.Common.{◌≡◌, Some, IfSome}
use Rattle.qm_script.specs.Lines.{pending}
use Rattle.qm_script.proofs.lines.Lines.fill.Given as goal

abbrev pub invariant-loop : goal.invariant-loop
invariant-loop g l = record {
  taken : l.self.start ≡ l.self.end;
  left : IfSome (pending l.fn.self (g.R.Read.remaining l.fn.input)) (λ bytes. pending l.self (g.R.Read.remaining l.input) ≡ Some bytes);
}
