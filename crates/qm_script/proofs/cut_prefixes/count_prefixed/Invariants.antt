use Rattle.std.proofs.Common.{◌≡◌, ◌≤◌, ◌+◌, All, length, map}
use Rattle.qm_postings.specs.FieldIndex.{IsInfoOf}
use Rattle.qm_postings.specs.TermRange.{terms_left}
use Rattle.qm_weight.proofs.HeldTerms.{front}
use Rattle.qm_script.specs.Reached.{prefixed}
use Rattle.qm_weight.specs.Tree.{begins_with}
use Rattle.birchagain.specs.Body.{body_term}
use Rattle.qm_script.proofs.cut_prefixes.count_prefixed.Given as goal

-- those so far, and those that the prefix begins still in front, are all
abbrev pub invariant-loop-term : goal.invariant-loop-term
invariant-loop-term l = record {
  counted : l.count + length (front (begins_with (body_term l.prefix)) (map (λ pair. pair.0) (terms_left l.term-iterator)))
      ≡ length (prefixed l.segment.segment (body_term l.prefix));
  within : l.count ≤ l.most;
  infos : All (λ pair. IsInfoOf (record { reader = l.segment; field = 0 }) pair.0 pair.1) (terms_left l.term-iterator);
}
