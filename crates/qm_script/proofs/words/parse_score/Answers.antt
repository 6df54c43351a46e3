use Rattle.std.proofs.Common.{rules}
use Rattle.qm_script.proofs.Numbers.{score-below}
use Rattle.qm_script.proofs.words.parse_score.Goals as goal

pub returns-in_err-parse_digits-clause-value : goal.returns-in_err-parse_digits-clause-value
returns-in_err-parse_digits-clause-value c = score-below 9223372036854775808 c.args.text.now c.from_residual.result (search rules)

pub returns-clause-value : goal.returns-clause-value
returns-clause-value c = score-below 9223372036854775808 c.args.text.now c.ok.result (search rules)
