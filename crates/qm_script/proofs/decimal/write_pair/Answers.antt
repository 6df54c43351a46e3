-- The table has the two digits.
use Rattle.std.proofs.Common.{arith, length-set, set, ◌%◌, ◌+◌, ◌/◌, ◌≡◌}
use Rattle.std.proofs.lemmas.List.{drop-set, set_comm}
use Rattle.qm_script.proofs.Decimals.{table-pair}
use Rattle.qm_script.proofs.decimal.write_pair.Goals as goal

pub returns : goal.returns
returns c =
    let digits = table-pair c.args.number c.requires.below in
    let from = c.args.from in
    let text = c.args.text.now in
    let past : from + 1 + 1 ≡ from + 2 = omega arith in
    let written = set text (from + 1) (48 + c.args.number % 10) in
    rw (
      digits.0,
      digits.1,
      set_comm text from (from + 1) _ _ (λ same. omega (arith, same)),
      drop-set written from (48 + c.args.number / 10) (omega (arith, length-set text (from + 1) (48 + c.args.number % 10))),
      drop-set text (from + 1) _ (omega arith),
      past,
    )
