-- The least of the first places is counted where it is a start, and passed with what is too far away.
use Rattle.std.proofs.Common.{◌≡◌, length, map, arith, subst, sym, ◌∙◌}
use Rattle.std.proofs.lemmas.List.{length-map}
use Rattle.qm_phrase.specs.Places.{past}
use Rattle.qm_phrase.specs.Starts.{starts}
use Rattle.qm_phrase.specs.TermRows.{AreInside, rows_left, term_left}
use Rattle.qm_phrase.proofs.PassedPlaces.{All-passed, least_first_place-passed, starts-passed}
use Rattle.qm_phrase.proofs.StartSteps.{All-past, counted, greatest_first_place-past, least_first_place-past, starts-ended, within}
use Rattle.qm_phrase.proofs.counting.count_starts.Goals as goal
use Rattle.qm_phrase.proofs.counting.count_starts.Goals.{then-greatest-least, else-greatest-least}

pub first_places-least-requires : goal.first_places-least-requires
first_places-least-requires c = subst (AreInside (length c.args.positions.now)) (sym c.loop-count.invariant.terms) c.requires.inside

pub pass-requires-clause-inside : goal.pass-requires-clause-inside
pass-requires-clause-inside c = subst (AreInside (length c.args.positions.now)) (sym c.loop-count.invariant.terms) c.requires.inside

pub pass-requires-clause-place : goal.pass-requires-clause-place
pass-requires-clause-place c =
    let sets = rows_left c.args.positions.now c.loop-count.rows in
    (within sets c.first_places-least.result.0 c.first_places-least.result.1
    (omega (arith, length-map c.loop-count.rows (term_left c.args.positions.now)))
    c.first_places-least.ensures.least c.first_places-least.ensures.greatest c.if-greatest-eq-ALL_PLACES.false c.loop-count.invariant.rows).0

pub overflow_add-least : goal.overflow_add-least
overflow_add-least c =
    let sets = rows_left c.args.positions.now c.loop-count.rows in
    let known = within sets c.first_places-least.result.0 c.first_places-least.result.1
    (omega (arith, length-map c.loop-count.rows (term_left c.args.positions.now)))
    c.first_places-least.ensures.least c.first_places-least.ensures.greatest c.if-greatest-eq-ALL_PLACES.false c.loop-count.invariant.rows in
    record { fits = omega (arith, known.0, c.from.ensures, c.ranges.slop.fits) }

pub loop-count-smaller : goal.loop-count-smaller
loop-count-smaller c =
    let sets = rows_left c.args.positions.now c.loop-count.rows in
    let new = rows_left c.args.positions.now c.pass.new.rows in
    let least = c.first_places-least.result.0 in
    let known = within sets least c.first_places-least.result.1 (omega (arith, length-map c.loop-count.rows (term_left c.args.positions.now)))
    c.first_places-least.ensures.least c.first_places-least.ensures.greatest c.if-greatest-eq-ALL_PLACES.false c.loop-count.invariant.rows in
    let more = least_first_place-past least sets known.0 known.2 in
    let still = least_first_place-passed c.saturating_sub.result (map (past least) sets) new c.pass.ensures.left (All-past 0 least sets c.loop-count.invariant.rows) in
    omega (arith, more, still, c.first_places-least.ensures.least, known.0)

pub loop-count-preserved : goal.loop-count-preserved
loop-count-preserved c =
    let sets = rows_left c.args.positions.now c.loop-count.rows in
    let new = rows_left c.args.positions.now c.pass.new.rows in
    let least = c.first_places-least.result.0 in
    let floor = c.saturating_sub.result in
    let known = within sets least c.first_places-least.result.1 (omega (arith, length-map c.loop-count.rows (term_left c.args.positions.now)))
    c.first_places-least.ensures.least c.first_places-least.ensures.greatest c.if-greatest-eq-ALL_PLACES.false c.loop-count.invariant.rows in
    let step = counted sets c.args.slop least c.first_places-least.ensures.least known.0 known.1 known.2 in
    let rows = All-past 0 least sets c.loop-count.invariant.rows in
    let far = greatest_first_place-past least sets c.loop-count.invariant.rows in
    let moved : starts c.args.slop new ≡ starts c.args.slop (map (past least) sets) = starts-passed c.args.slop floor (map (past least) sets) new
    (omega (arith, far, c.saturating_sub.ensures, c.first_places-least.ensures.greatest, c.from-in-loop-count.ensures)) rows c.pass.ensures.left in
    record {
      some = omega (arith, c.pass.auto.rows, c.loop-count.invariant.some);
      rows = All-passed 0 floor (map (past least) sets) new c.pass.ensures.left rows;
      within = elim c.if-greatest-least.branch [ then-greatest-least w ↦ omega arith | else-greatest-least w ↦ omega arith ];
      counted = elim c.if-greatest-least.branch [
        | then-greatest-least w ↦
            omega (arith, moved, step.0 (omega (arith, c.first_places-least.ensures.greatest, c.from.ensures)), c.loop-count.invariant.counted)
        | else-greatest-least w ↦
            omega (arith, moved, step.1 (omega (arith, c.first_places-least.ensures.greatest, c.from.ensures)), c.loop-count.invariant.counted)
      ];
      terms = c.pass.ensures.terms ∙ c.loop-count.invariant.terms;
    }

pub returns-then-greatest-eq-ALL_PLACES-clause-count : goal.returns-then-greatest-eq-ALL_PLACES-clause-count
returns-then-greatest-eq-ALL_PLACES-clause-count c =
    let sets = rows_left c.args.positions.now c.loop-count.rows in
    let none = starts-ended c.args.slop sets (sym c.first_places-least.ensures.greatest ∙ c.if-greatest-eq-ALL_PLACES.true) c.loop-count.invariant.rows in
    omega (arith, none, c.loop-count.invariant.counted, c.loop-count.invariant.within)
