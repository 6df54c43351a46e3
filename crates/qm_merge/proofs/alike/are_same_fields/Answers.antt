use Rattle.std.proofs.Common.{◌≡◌, Some, ap, refl, sym, ◌∙◌}
use Rattle.std.specs.List.{slice_get}
use Rattle.std.specs.Option.{option_copied}
use Rattle.std.proofs.lemmas.List.{take_more_same}
use Rattle.std.proofs.lemmas.Option.{get_or_from_slice_get, slice_get_within}
use Rattle.qm_merge.proofs.alike.are_same_fields.Goals as goal

pub loop-id-preserved : goal.loop-id-preserved
loop-id-preserved c =
    let first = c.args.first.now in
    let second = c.args.second.now in
    let id = c.loop-id.id in
    let one = c.in-Some-Some.one.now in
    let other = c.in-Some-Some.other.now in
    let at_first : slice_get first id ≡ Some one = ap (slice_get first) (sym c.from_field_id-field.ensures) ∙ sym c.get_field_entry.ensures
    ∙ ap option_copied c.in-Some-Some.is-0 in
    let at_second : slice_get second id ≡ Some other = ap (slice_get second) (sym c.from_field_id-field.ensures)
    ∙ sym c.get_field_entry-in-loop-id.ensures ∙ ap option_copied c.in-Some-Some.is-1 in
    let same : one ≡ other = c.if-not-is_same_field.ensures.0 refl in
    take_more_same first second id one (slice_get_within first id one at_first) (slice_get_within second id other at_second) c.loop-id.invariant
    (get_or_from_slice_get first id one one at_first ∙ same ∙ sym (get_or_from_slice_get second id other one at_second))
