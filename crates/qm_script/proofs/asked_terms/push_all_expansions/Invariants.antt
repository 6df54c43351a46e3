use Rattle.std.proofs.Common.{◌≡◌, ◌++◌, map, take}
use Rattle.birchagain.specs.Body.{body_term}
use Rattle.qm_script.specs.AskedTerms.{all_expansions}
use Rattle.qm_script.proofs.asked_terms.push_all_expansions.Given as goal

abbrev pub invariant-loop-segment : goal.invariant-loop-segment
invariant-loop-segment l = l.terms.items ≡ l.fn.terms.items ++ all_expansions (map (λ r. r.segment) (take l.segment-index l.segments)) (body_term l.prefix) l.most
