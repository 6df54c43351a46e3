use Rattle.std.proofs.Common.{◌≡◌, ◌+◌, ◌-◌, ◌*◌, min, true, false, sym, ◌∙◌, arith, ap}
use Rattle.std.specs.Char.{is_ascii_digit}
use Rattle.qm_parser.proofs.DigitLemmas.{digits-done, digits-more, digits-stop}
use Rattle.qm_parser.specs.Cursor.{characters_left}
use Rattle.qm_parser.specs.Numbers.{digits_at}
use Rattle.qm_parser.proofs.characters.Characters.digits.Goals as goal

pub returns-then-not-is_ascii_digit : goal.returns-then-not-is_ascii_digit
returns-then-not-is_ascii_digit c =
    let no_digit : is_ascii_digit c.in-Some.c.letter ≡ false = sym c.is_ascii_digit.ensures.value ∙ c.if-not-is_ascii_digit.true in
    sym (digits-stop c.loop-c.number c.in-Some.c (characters_left c.loop-c.self) c.in-Some.ensures no_digit) ∙ c.loop-c.invariant.1

pub loop-c-preserved : goal.loop-c-preserved
loop-c-preserved c =
    let digit : is_ascii_digit c.in-Some.c.letter ≡ true = sym c.is_ascii_digit.ensures.value ∙ c.if-not-is_ascii_digit.false in
    let more = digits-more c.loop-c.number c.in-Some.c (characters_left c.loop-c.self) c.in-Some.ensures digit in
    let least = c.min-number.ensures in (
      omega arith,
      ap (λ n. digits_at n (characters_left c.skip.new.self)) least
          ∙ ap (digits_at (min (c.loop-c.number * 10 + (c.in-Some.c.letter - 48)) 4294967296)) c.skip.ensures ∙ sym more ∙ c.loop-c.invariant.1,
    )

pub returns : goal.returns
returns c = sym (digits-done c.loop-c.number (characters_left c.loop-c.self) (sym c.in_default.is ∙ c.peek.ensures)) ∙ c.loop-c.invariant.1
