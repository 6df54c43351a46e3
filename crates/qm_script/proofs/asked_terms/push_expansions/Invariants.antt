use Rattle.std.proofs.Common.{◌≡◌, ◌++◌, All, map, take}
use Rattle.qm_postings.specs.FieldIndex.{IsInfoOf}
use Rattle.qm_postings.specs.TermRange.{terms_left}
use Rattle.qm_weight.specs.Tree.{begins_with, expansions}
use Rattle.qm_weight.proofs.HeldTerms.{front}
use Rattle.birchagain.specs.Body.{body_term}
use Rattle.qm_script.proofs.asked_terms.push_expansions.Given as goal

-- what is there, and the first ones of those that the prefix has still in front, is all that is to be there
abbrev pub invariant-loop-term : goal.invariant-loop-term
invariant-loop-term l = record {
  added : l.terms.items ++ take l.left (front (begins_with (body_term l.prefix)) (map (λ pair. pair.0) (terms_left l.term-iterator)))
      ≡ l.fn.terms.items ++ expansions l.segment.segment (body_term l.prefix) l.most;
  infos : All (λ pair. IsInfoOf (record { reader = l.segment; field = 0 }) pair.0 pair.1) (terms_left l.term-iterator);
}
