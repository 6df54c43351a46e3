use Rattle.std.proofs.Common.{subst, sym, arith}
use Rattle.std.proofs.lemmas.Option.{IfSome_then}
use Rattle.std.specs.Io.KnownBytes.{Keeps}
use Rattle.qm_script.specs.State.{start_state}
use Rattle.qm_script.proofs.Running.{Keeps-self, run-begun, run-ended, run-kept, run-more}
use Rattle.qm_script.proofs.States.{is_state}
use Rattle.qm_script.proofs.runner.answer_lines.Goals as goal
use Rattle.qm_script.proofs.runner.answer_lines.Goals.{then-not-has_line+in_ok-flush, else-not-has_line}

pub loop-number-init : goal.loop-number-init
loop-number-init g c = record {
  under_way =
      rw (is_state c.in-Ok.corpus _ _ c.in-Ok.ensures.documents c.in-Ok.ensures.weights) (run-begun start_state c.new-lines.result _ _ c.new-lines.ensures);
  least = omega arith;
}

pub returns-then-not-branch-clause-answers : goal.returns-then-not-branch-clause-answers
returns-then-not-branch-clause-answers g c =
    let contents = g.W.Write.contents in
    let flushed : Keeps (contents c.loop-number.output) (contents c.if-not-has_line.output) = elim c.if-not-has_line.branch [
      | then-not-has_line+in_ok-flush w ↦ subst (λ o. Keeps (contents c.loop-number.output) (contents o)) (sym w.output-is) w.in_ok-flush.ensures
      | else-not-has_line w ↦ subst (λ o. Keeps (contents c.loop-number.output) (contents o)) (sym w.output-is) (Keeps-self (contents c.loop-number.output))
    ] in
    let ended = rw c.if-not-branch.true at c.in_ok-next_line.ensures.answer in
    IfSome_then _ c.loop-number.invariant.under_way (λ bytes w. run-ended ended (run-kept _ _ flushed w))

pub loop-number-preserved : goal.loop-number-preserved
loop-number-preserved g c =
    let contents = g.W.Write.contents in
    let flushed : Keeps (contents c.loop-number.output) (contents c.if-not-has_line.output) = elim c.if-not-has_line.branch [
      | then-not-has_line+in_ok-flush w ↦ subst (λ o. Keeps (contents c.loop-number.output) (contents o)) (sym w.output-is) w.in_ok-flush.ensures
      | else-not-has_line w ↦ subst (λ o. Keeps (contents c.loop-number.output) (contents o)) (sym w.output-is) (Keeps-self (contents c.loop-number.output))
    ] in
    let some = rw c.if-not-branch.false at c.in_ok-next_line.ensures.answer in
    record {
      under_way = IfSome_then _ c.loop-number.invariant.under_way
          (λ bytes w. run-more (omega arith) (omega (arith, c.max-status.ensures)) some c.in_ok-next_line.ensures.line c.in_ok-next_line.ensures.left
          (rw c.as_slice.ensures.value at c.in_ok-made.ensures.answer) (rw c.as_str.ensures.value at c.in_ok-write_text.ensures) (run-kept _ _ flushed w));
      least = omega (arith, c.max-status.ensures, c.in_ok-made.ensures.status, c.loop-number.invariant.least);
    }
