-- Two digits of what is left, or the one that it is, stand before those behind it.
use Rattle.std.proofs.Common.{ap, arith, drop, length, ◌≡◌, ◌∷◌, ◌∙◌, ◌+◌, ◌-◌, ◌/◌, ◌%◌, ◌<◌, ◌^◌}
use Rattle.std.proofs.lemmas.Fmt.{decimal_nonempty}
use Rattle.qm_script.proofs.Decimals.{HasDigitsFrom, decimal-pair, last-digit, last-pair, nothing-written, pair-written, room-left, two-of-hundreds}
use Rattle.qm_script.proofs.decimal.write_digits.Goals as goal

pub loop-left-init : goal.loop-left-init
loop-left-init c = nothing-written c.args.number c.args.end c.args.text.now (omega (arith, c.ranges.number.fits)) (omega (arith, c.told-text))

pub overflow_sub-from : goal.overflow_sub-from
overflow_sub-from c =
    let left = c.loop-left.left in
    omega (
      arith,
      room-left _ _ _ _ _ _ c.requires.room c.loop-left.invariant,
      two-of-hundreds left c.loop-left-test.true (omega (arith, c.loop-left.auto.left-fits.fits)),
    )

pub loop-left-preserved : goal.loop-left-preserved
loop-left-preserved c =
    let w = c.loop-left.invariant in
    let small : c.loop-left.left < 2 ^ 64 = omega (arith, c.loop-left.auto.left-fits.fits) in
    let room = room-left _ _ _ _ _ _ c.requires.room w in
    let from : c.loop-left.from - 2 + 2 ≡ c.loop-left.from = omega (arith, room, two-of-hundreds c.loop-left.left c.loop-left-test.true small) in
    let left = c.loop-left.left % 100 in
    pair-written _ _ _ _ _ _ c.requires.room w c.write_pair.new.text c.write_pair.array_long c.loop-left-test.true small
    (c.write_pair.ensures ∙ ap (λ k. (48 + left / 10) ∷ (48 + left % 10) ∷ drop k c.loop-left.text) from)

pub overflow_sub-from-then-left-ge10 : goal.overflow_sub-from-then-left-ge10
overflow_sub-from-then-left-ge10 c =
    omega (
      arith,
      room-left _ _ _ _ _ _ c.requires.room c.loop-left.invariant,
      ap length (decimal-pair c.loop-left.left c.if-left-ge10.true c.loop-left-test.false),
    )

pub overflow_sub-from-else-left-ge10 : goal.overflow_sub-from-else-left-ge10
overflow_sub-from-else-left-ge10 c =
    omega (
      arith,
      room-left _ _ _ _ _ _ c.requires.room c.loop-left.invariant,
      decimal_nonempty c.loop-left.left (omega (arith, c.if-left-ge10.false)),
    )

ends-pair : (c : goal.After-write_pair-then-left-ge10) →
    HasDigitsFrom c.args.number c.args.end (c.loop-left.from - 2) c.args.text.now c.write_pair-then-left-ge10.new.text
ends-pair c =
    let w = c.loop-left.invariant in
    let left = c.loop-left.left in
    let two = ap length (decimal-pair left c.if-left-ge10.true c.loop-left-test.false) in
    let from : c.loop-left.from - 2 + 2 ≡ c.loop-left.from = omega (arith, room-left _ _ _ _ _ _ c.requires.room w, two) in
    last-pair _ _ _ _ _ _ c.requires.room w c.write_pair-then-left-ge10.new.text c.if-left-ge10.true c.loop-left-test.false
    (c.write_pair-then-left-ge10.ensures ∙ ap (λ k. (48 + left / 10) ∷ (48 + left % 10) ∷ drop k c.loop-left.text) from)

pub returns-then-left-ge10-clause-within : goal.returns-then-left-ge10-clause-within
returns-then-left-ge10-clause-within c = omega (arith, (ends-pair c).place)

pub returns-then-left-ge10-clause-room : goal.returns-then-left-ge10-clause-room
returns-then-left-ge10-clause-room c = omega (arith, (ends-pair c).place, (ends-pair c).short)

pub returns-then-left-ge10-clause-digits : goal.returns-then-left-ge10-clause-digits
returns-then-left-ge10-clause-digits c = (ends-pair c).digits

pub returns-else-left-ge10-clause-within : goal.returns-else-left-ge10-clause-within
returns-else-left-ge10-clause-within c =
    omega (arith, (last-digit _ _ _ _ _ _ c.requires.room c.loop-left.invariant c.if-left-ge10.false c.requires.end).place)

pub returns-else-left-ge10-clause-room : goal.returns-else-left-ge10-clause-room
returns-else-left-ge10-clause-room c =
    let ends = last-digit _ _ _ _ _ _ c.requires.room c.loop-left.invariant c.if-left-ge10.false c.requires.end in
    omega (arith, ends.place, ends.short)

pub returns-else-left-ge10-clause-digits : goal.returns-else-left-ge10-clause-digits
returns-else-left-ge10-clause-digits c =
    (last-digit _ _ _ _ _ _ c.requires.room c.loop-left.invariant c.if-left-ge10.false c.requires.end).digits
