use Rattle.std.proofs.Common.{◌≤◌, All, rules}
use Rattle.qm_query.specs.Offsets.{AreOfOneField}
use Rattle.qm_query.proofs.phrase_prefix_query.PhrasePrefixQuery.new_with_offset.Goals as goal

pub of_sorted-requires-clause-fit : goal.of_sorted-requires-clause-fit
of_sorted-requires-clause-fit c =
    let fit : All (λ t. t.0 ≤ 4294967295) c.args.terms.items = search rules in
    c.in_ok-sort_by_offset.ensures.fit fit

pub of_sorted-requires-clause-field : goal.of_sorted-requires-clause-field
of_sorted-requires-clause-field c =
    let of_field : AreOfOneField c.args.terms.items = search rules in
    c.in_ok-sort_by_offset.ensures.field of_field
