-- Blocks without a break are passed, and the first break is the first one behind them.
use Rattle.std.proofs.Common.{◌≡◌, ℕ, ◌+◌, ◌-◌, ◌==◌, List, length, position, ap, sym, ◌∙◌, arith, false, take, drop}
use Rattle.std.proofs.Math.Seq.{take-add}
use Rattle.std.proofs.lemmas.List.{length-drop, take-append-drop, take_all}
use Rattle.qm_script.specs.Lines.{has_break}
use Rattle.qm_script.proofs.LineBytes.{has_break-append, position-behind, position-none, position-unbroken}
use Rattle.qm_script.proofs.lines.line_end.Goals as goal

-- what is looked at last are all bytes behind those passed
behind : (bytes : List ℕ) (passed : ℕ) → take (length bytes - passed) (drop passed bytes) ≡ drop passed bytes
behind bytes passed = take_all (length bytes - passed) (drop passed bytes) (omega (arith, length-drop passed bytes))

pub loop-passed-preserved : goal.loop-passed-preserved
loop-passed-preserved c =
    let bytes = c.args.bytes.now in
    let passed = c.loop-passed.passed in
    let width : passed + 16 - passed ≡ 16 = omega arith in
    record {
      within = omega (arith, c.loop-passed-test.true);
      unbroken = ap has_break (take-add passed 16 bytes) ∙ has_break-append (take passed bytes) (take 16 (drop passed bytes)) c.loop-passed.invariant.unbroken
          (ap (λ n. has_break (take n (drop passed bytes))) (sym width) ∙ sym c.is_broken.ensures ∙ c.if-not-is_broken.true);
    }

pub returns-in_err-first_break : goal.returns-in_err-first_break
returns-in_err-first_break c =
    let bytes = c.args.bytes.now in
    let passed = c.loop-passed.passed in
    let rest = position-none (drop passed bytes) (ap (position (λ b. b == 10)) (sym (behind bytes passed)) ∙ sym c.in_err-first_break.ensures) in
    let whole : has_break bytes ≡ false = ap has_break (sym (take-append-drop passed bytes))
    ∙ has_break-append (take passed bytes) (drop passed bytes) c.loop-passed.invariant.unbroken rest in
    c.from_residual.ensures ∙ sym (position-unbroken bytes whole)

pub returns : goal.returns
returns c =
    let bytes = c.args.bytes.now in
    let passed = c.loop-passed.passed in
    let known = c.loop-passed.invariant in
    sym (position-behind bytes passed c.in_ok-first_break.field-0 known.unbroken known.within
    (ap (position (λ b. b == 10)) (sym (behind bytes passed)) ∙ sym c.in_ok-first_break.ensures))
