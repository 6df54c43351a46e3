use Rattle.std.proofs.Common.{◌≤◌, All, arith, rules}
use Rattle.qm_query.specs.Offsets.{AreOfOneField}
use Rattle.qm_query.proofs.phrase_query.PhraseQuery.new_with_offset_and_slop.Goals as goal

pub invariant_of-result : goal.invariant_of-result
invariant_of-result c =
    let fit : All (λ t. t.0 ≤ 4294967295) c.args.terms.items = search rules in
    let of_field : AreOfOneField c.args.terms.items = search rules in (
      omega (arith, c.in_ok-sort_by_offset.ensures.count, c.sort_by_offset.new.terms.ok.0),
      c.in_ok-sort_by_offset.ensures.fit fit,
      c.in_ok-sort_by_offset.ensures.field of_field,
    )
