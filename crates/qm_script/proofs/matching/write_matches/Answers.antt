use Rattle.std.proofs.Common.{sym, ◌∙◌, rules}
use Rattle.qm_script.proofs.matching.write_matches.Goals as goal

pub list_all-requires-clause-scoring : goal.list_all-requires-clause-scoring
list_all-requires-clause-scoring c = λ on. search (rules, c.in_ok-weight.ensures.scoring (sym c.is_scoring_enabled-is_scored.ensures ∙ on))
