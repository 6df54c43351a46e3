use Rattle.std.proofs.Common.{◌∙◌, ap, arith, pos, rules, sym, w64}
use Rattle.std.proofs.lemmas.Int.{to_z-of_z}
use mir.Val.{SFits}
use Rattle.qm_term.specs.RunScorers.{wand_member}
use Rattle.qm_term.proofs.WandMembers.{head-member, score-member}
use Rattle.qm_term.proofs.wand.front.TermScorerWithMaxScore.score_counted.Goals as goal

pub score_here-requires-clause-here : goal.score_here-requires-clause-here
unfolding wand_member
score_here-requires-clause-here g c = omega (arith, head-member c.args.self.now.scorer, c.requires.here)

pub returns-clause-score : goal.returns-clause-score
unfolding wand_member
returns-clause-score g c =
    let fits : SFits w64 c.score_here.result = search rules in
    to_z-of_z w64 c.score_here.result fits ∙ c.score_here.ensures ∙ ap pos (sym (score-member c.args.self.now.scorer))
