use Rattle.std.proofs.Common.{◌≤◌, IfSome}
use Rattle.qm_script.specs.Lines.{pending}
use Rattle.qm_script.specs.State.{start_state, state}
use Rattle.qm_script.proofs.Running.{IsUnderWay}
use Rattle.qm_script.proofs.runner.answer_lines.Given as goal

abbrev pub invariant-loop-number : goal.invariant-loop-number
invariant-loop-number g l = record {
  under_way : IfSome (g.R.Read.remaining l.fn.input) (λ bytes. IsUnderWay start_state bytes (state l.corpus) l.number
      (pending l.lines (g.R.Read.remaining l.input)) l.status (g.W.Write.contents l.fn.output) (g.W.Write.contents l.output));
  least : l.status ≤ 2;
}
