use Rattle.std.proofs.Common.{rules}
use Rattle.qm_script.proofs.Numbers.{number-below}
use Rattle.qm_script.proofs.words.parse_count.Goals as goal

pub returns-in_err-parse_digits : goal.returns-in_err-parse_digits
returns-in_err-parse_digits c = number-below 4294967296 c.args.text.now c.from_residual.result (search rules)

pub returns : goal.returns
returns c = number-below 4294967296 c.args.text.now c.ok.result (search rules)
