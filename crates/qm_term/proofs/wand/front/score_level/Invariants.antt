use Rattle.std.proofs.Common.{◌≡◌, fold, map, take}
use Rattle.qm_term.specs.Heads.{listed}
use Rattle.qm_term.specs.RunScorers.{first_score, wand_member}
use Rattle.qm_term.proofs.wand.front.score_level.Given as goal

abbrev pub invariant-loop-head : goal.invariant-loop-head
invariant-loop-head g l = l.state
    ≡ fold g.C.ScoreCombiner.step (g.C.ScoreCombiner.cleared l.fn.combiner)
    (map (λ h. first_score (listed (map wand_member l.scorers) h)) (take l.head-index l.head-items))
