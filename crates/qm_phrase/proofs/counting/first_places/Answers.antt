-- One more term is asked.
use Rattle.std.proofs.Common.{length, take, get_or, arith, ap}
use Rattle.std.proofs.lemmas.List.{get_or_default}
use Rattle.qm_combine.proofs.EachMember.{take-map_more}
use Rattle.qm_phrase.specs.Places.{greatest_first_place, least_first_place}
use Rattle.qm_phrase.specs.TermRows.{rows_left, term_left}
use Rattle.qm_phrase.proofs.StartSteps.{least_first_place-push, greatest_first_place-push}
use Rattle.qm_phrase.proofs.TermRows.{inside_at, no_term}
use Rattle.qm_phrase.proofs.counting.first_places.Goals as goal

pub first-place-requires : goal.first-place-requires
first-place-requires c = inside_at (length c.args.positions.now) c.args.rows.now c.loop-row.row-index c.requires c.loop-row-test.true

pub loop-row-preserved : goal.loop-row-preserved
loop-row-preserved c =
    let i = c.loop-row.row-index in
    let rows = c.args.rows.now in
    let positions = c.args.positions.now in
    let row = get_or rows i no_term in
    let more = take-map_more (term_left positions) rows i row (get_or_default rows i no_term row c.loop-row-test.true) c.loop-row-test.true in
    let sets = take i (rows_left positions rows) in
    record {
      least = omega (
        arith,
        ap least_first_place more,
        least_first_place-push sets (term_left positions row),
        c.loop-row.invariant.least,
        c.first-place.ensures,
        c.min-least.ensures,
      );
      greatest = omega (
        arith,
        ap greatest_first_place more,
        greatest_first_place-push sets (term_left positions row),
        c.loop-row.invariant.greatest,
        c.first-place.ensures,
        c.max-greatest.ensures,
      );
    }
