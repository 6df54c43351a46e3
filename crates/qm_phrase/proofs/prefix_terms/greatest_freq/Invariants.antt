use Rattle.std.proofs.Common.{◌≤◌, All, take}
use Rattle.qm_phrase.proofs.prefix_terms.greatest_freq.Given as goal

abbrev pub invariant-loop-member : goal.invariant-loop-member
invariant-loop-member g l = All (λ m. (g.P.DocSet.limits m).room ≤ l.greatest) (take l.member-index l.postings)
