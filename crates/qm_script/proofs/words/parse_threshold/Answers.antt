use Rattle.std.proofs.Common.{rules, ◌∙◌}
use Rattle.qm_script.proofs.Numbers.{no_plus, signed-below}
use Rattle.qm_script.proofs.words.parse_threshold.Goals as goal

pub returns-then-starts_with : goal.returns-then-starts_with
returns-then-starts_with c = no_plus c.args.text.now (search rules)

pub returns : goal.returns
returns c = c.ok.ensures.value ∙ signed-below c.args.text.now c.parse.result (search rules) c.parse.ensures.value.0
