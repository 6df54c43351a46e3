use Rattle.qm_script.proofs.Numbers.{number-below}
use Rattle.qm_script.proofs.words.parse_document.Goals as goal

pub returns : goal.returns
returns c = number-below 18446744073709551616 c.args.text.now c.parse_digits.result c.parse_digits.ensures
