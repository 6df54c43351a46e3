use Rattle.std.proofs.Common.{ap, ◌∙◌}
use Rattle.std.specs.Str.Iter.{char_indices_offset, char_indices_rest}
use Rattle.qm_parser.proofs.PlacedLemmas.{placing-begun, placing-done, placing-more}
use Rattle.qm_parser.specs.Characters.{placed_characters}
use Rattle.qm_parser.proofs.place_characters.place_characters.Goals as goal

pub loop-place-init : goal.loop-place-init
loop-place-init c =
    let same = c.into_iter-place-iterator.ensures.into_iter_gives in
    rw (c.new-placed.ensures.items)
    (placing-begun c.args.text.now (char_indices_rest c.into_iter-place-iterator.result) (char_indices_offset c.into_iter-place-iterator.result) c.utf8.text
    (ap char_indices_rest same ∙ c.char_indices-place-items.ensures.rest) (ap char_indices_offset same ∙ c.char_indices-place-items.ensures.offset))

pub loop-place-preserved : goal.loop-place-preserved
loop-place-preserved c =
    let step = c.in-Some.ensures.steps in
    rw (c.in_ok-push.ensures.items)
    (placing-more c.loop-place.placed.items (char_indices_offset c.loop-place.place-iterator) c.in-Some.place (char_indices_offset c.next.new.self)
    (char_indices_rest c.loop-place.place-iterator) (char_indices_rest c.next.new.self) (placed_characters c.args.text.now) c.in-Some.letter
    c.loop-place.invariant step.0 step.1 step.2)

pub returns : goal.returns
returns c =
    placing-done c.loop-place.placed.items (char_indices_offset c.loop-place.place-iterator) (char_indices_rest c.loop-place.place-iterator)
    (placed_characters c.args.text.now) c.loop-place.invariant c.in-None.ensures.steps.0
