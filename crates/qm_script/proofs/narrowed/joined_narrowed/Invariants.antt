use Rattle.std.proofs.Common.{◌≡◌, map, take}
use Rattle.qm_postings.specs.Restriction.{restricted}
use Rattle.qm_script.specs.Narrowed.{all_joined}
use Rattle.qm_script.specs.Wanted.{is_wanted}
use Rattle.qm_script.proofs.narrowed.joined_narrowed.Given as goal

abbrev pub invariant-loop-other : goal.invariant-loop-other
invariant-loop-other l = l.whole.segment ≡ restricted (is_wanted l.terms) (all_joined l.first.segment (map (λ r. r.segment) (take l.other-index l.others)))
