use Rattle.std.proofs.Common.{◌≡◌, All, arith, rules}
use Rattle.qm_schema.specs.Term.{TermKey}
use Rattle.qm_query.specs.Offsets.{first_field}
use Rattle.qm_query.proofs.phrase_query.PhraseQuery.new.Goals as goal

pub invariant_of-result : goal.invariant_of-result
invariant_of-result c =
    let made = c.in_ok-enumerate_terms in
    let of_field : All (λ (t : TermKey). t.field ≡ first_field (λ t. t) c.args.terms.items) c.args.terms.items = search rules in
    (omega (arith, made.ensures.count, made.field-0.ok.0), made.ensures.fit, made.ensures.field of_field)
