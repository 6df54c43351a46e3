use Rattle.std.proofs.Common.{◌≡◌, ◌+◌, map, min, sum, take}
use Rattle.qm_docset.specs.Entry.{greatest_score, head_score}
use Rattle.qm_term.specs.TermScorer.{scored_left}
use Rattle.qm_term.proofs.wand.conjunction.score_all.Given as goal

abbrev pub invariant-loop-other : goal.invariant-loop-other
invariant-loop-other g l =
    l.sum ≡ min greatest_score (head_score (scored_left l.leader) + sum (take l.other-index (map head_score (map scored_left l.others))))
