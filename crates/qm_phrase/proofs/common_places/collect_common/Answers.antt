-- The least of the first places is collected where all begin with it, and passed with all below the greatest.
use Rattle.std.proofs.Common.{rules, ◌≡◌, ◌<◌, ◌≤◌, ◌++◌, [], ◌∷◌, List, ℕ, length, map, get_or, arith, refl, ap, subst, sym, ◌∙◌}
use Rattle.std.specs.Global.{Vec}
use Rattle.std.proofs.lemmas.List.{get_or-map, length-append, length-map}
use Rattle.qm_phrase.specs.Places.{first_place, greatest_first_place, least_first_place, left_in, past, places_of}
use Rattle.qm_phrase.specs.TermRows.{AreInside, first_term, rows_left, term_left, term_of, terms_of}
use Rattle.qm_phrase.specs.declared.term_row.TermRow.{TermRow}
use Rattle.qm_phrase.proofs.StartSteps.{All-past, greatest_first_place-past, least_first_place-le, least_first_place-past, within}
use Rattle.qm_phrase.proofs.CommonSteps.{collected-all, collected-common, collected-none, collected-skip, first-common, shorter-common, shorter-past}
use Rattle.qm_phrase.proofs.PassedPlaces.{collected-passed, least_first_place-passed, shorter-passed}
use Rattle.qm_phrase.proofs.TermRows.{inside_at, no_term, read_is}
use Rattle.qm_phrase.proofs.common_places.collect_common.Goals as goal
use Rattle.qm_phrase.proofs.common_places.collect_common.Goals.{then-least-greatest, else-least-greatest}

pub first_places-least-requires : goal.first_places-least-requires
first_places-least-requires c = subst (AreInside (length c.args.positions.now)) (sym c.loop-least.invariant.terms) c.requires.inside

pub pass-requires-clause-inside : goal.pass-requires-clause-inside
pass-requires-clause-inside c = subst (AreInside (length c.args.positions.now)) (sym c.loop-least.invariant.terms) c.requires.inside

pub pass-requires-clause-rows : goal.pass-requires-clause-rows
pass-requires-clause-rows c = c.loop-least.invariant.collected.rows

pub returns-then-greatest-eq-ALL_PLACES-clause-common : goal.returns-then-greatest-eq-ALL_PLACES-clause-common
returns-then-greatest-eq-ALL_PLACES-clause-common c =
    let positions = c.args.positions.now in
    collected-all (rows_left positions c.args.rows.now) (rows_left positions c.loop-least.rows) (places_of c.loop-least.common) (omega (
      arith,
      c.requires.some,
      length-map c.args.rows.now (term_left positions),
    )) (sym c.first_places-least.ensures.greatest ∙ c.if-greatest-eq-ALL_PLACES.true) c.loop-least.invariant.collected

pub loop-least-init : goal.loop-least-init
loop-least-init c =
    let none = c.clear.ensures.none in
    record {
      some = c.requires.some;
      collected = rw none (collected-none (rows_left c.args.positions.now c.args.rows.now) c.requires.rows);
      shift = c.clear.ensures.shift;
      first = c.clear.ensures.shift ∙ c.requires.shift;
      fits = omega (arith, ap length none, c.requires.room, c.clear.ensures.room);
      room = c.clear.ensures.room;
      terms = refl;
    }

pub pass-requires-clause-place : goal.pass-requires-clause-place
pass-requires-clause-place c =
    let sets = rows_left c.args.positions.now c.loop-least.rows in
    (within sets c.first_places-least.result.0 c.first_places-least.result.1
    (omega (arith, length-map c.loop-least.rows (term_left c.args.positions.now)))
    c.first_places-least.ensures.least c.first_places-least.ensures.greatest c.if-greatest-eq-ALL_PLACES.false c.loop-least.invariant.collected.rows).0

pub loop-least-smaller : goal.loop-least-smaller
loop-least-smaller c =
    let sets = rows_left c.args.positions.now c.loop-least.rows in
    let new = rows_left c.args.positions.now c.pass.new.rows in
    let least = c.first_places-least.result.0 in
    let known = within sets least c.first_places-least.result.1 (omega (arith, length-map c.loop-least.rows (term_left c.args.positions.now)))
    c.first_places-least.ensures.least c.first_places-least.ensures.greatest c.if-greatest-eq-ALL_PLACES.false c.loop-least.invariant.collected.rows in
    let more = least_first_place-past least sets known.0 known.2 in
    let still = least_first_place-passed c.first_places-least.result.1 (map (past least) sets) new c.pass.ensures.left
    (All-past 0 least sets c.loop-least.invariant.collected.rows) in
    omega (arith, more, still, c.first_places-least.ensures.least, known.0)

-- what stands first is the place that all begin with
first_is : (positions : List (Vec ℕ)) (left : List TermRow) (least : ℕ) → 0 < length left → least ≡ least_first_place (rows_left positions left) →
    least ≡ greatest_first_place (rows_left positions left) → first_place (term_left positions (get_or left 0 no_term)) ≡ least
first_is positions left least some is most =
    ap first_place (sym (get_or-map (term_left positions) left 0 no_term [] some))
    ∙ first-common least (rows_left positions left) (omega (arith, length-map left (term_left positions))) is most

pub push_first-requires-clause-some : goal.push_first-requires-clause-some
push_first-requires-clause-some c =
    let left = c.loop-least.rows in
    let positions = c.args.positions.now in
    let first = get_or left 0 no_term in
    let least = c.first_places-least.result.0 in
    let known = within (rows_left positions left) least c.first_places-least.result.1 (omega (arith, length-map left (term_left positions)))
    c.first_places-least.ensures.least c.first_places-least.ensures.greatest c.if-greatest-eq-ALL_PLACES.false c.loop-least.invariant.collected.rows in
    let inside = subst (AreInside (length positions)) (sym c.loop-least.invariant.terms) c.requires.inside in
    let is = read_is positions first.member c.index-positions-first.result c.deref.result.now
    (inside_at (length positions) left 0 inside c.loop-least.invariant.some) (search rules) c.deref.ensures.value in
    omega (
      arith,
      known.0,
      ap (λ r. first_place (left_in r first.row)) is,
      first_is positions left least c.loop-least.invariant.some c.first_places-least.ensures.least
          (c.if-least-greatest.true ∙ c.first_places-least.ensures.greatest),
    )

pub push_first-requires-clause-shift : goal.push_first-requires-clause-shift
push_first-requires-clause-shift c =
    c.loop-least.invariant.first ∙ ap (λ t. t.0) (get_or-map term_of c.loop-least.rows 0 no_term (0, 0) c.loop-least.invariant.some)

pub push_first-requires-clause-room : goal.push_first-requires-clause-room
push_first-requires-clause-room c =
    let left = c.loop-least.rows in
    let positions = c.args.positions.now in
    let sets = rows_left positions left in
    let least = c.first_places-least.result.0 in
    let some : 0 < length sets = omega (arith, length-map left (term_left positions), c.loop-least.invariant.some) in
    let known = within sets least c.first_places-least.result.1 some c.first_places-least.ensures.least
    c.first_places-least.ensures.greatest c.if-greatest-eq-ALL_PLACES.false c.loop-least.invariant.collected.rows in
    let first = first-common least sets some c.first_places-least.ensures.least (c.if-least-greatest.true ∙ c.first_places-least.ensures.greatest) in
    omega (arith, shorter-common least sets some known.0 first, c.loop-least.invariant.fits)

pub loop-least-preserved : goal.loop-least-preserved
loop-least-preserved c =
    let left = c.loop-least.rows in
    let positions = c.args.positions.now in
    let sets = rows_left positions left in
    let new = rows_left positions c.pass.new.rows in
    let all = rows_left positions c.args.rows.now in
    let least = c.first_places-least.result.0 in
    let greatest = c.first_places-least.result.1 in
    let behind = map (past least) sets in
    let found = places_of c.loop-least.common in
    let some : 0 < length sets = omega (arith, length-map left (term_left positions), c.loop-least.invariant.some) in
    let known = within sets least greatest some c.first_places-least.ensures.least
    c.first_places-least.ensures.greatest c.if-greatest-eq-ALL_PLACES.false c.loop-least.invariant.collected.rows in
    let still : 0 < length c.pass.new.rows = omega (arith, c.pass.auto.rows, c.loop-least.invariant.some) in
    let terms = c.pass.ensures.terms ∙ c.loop-least.invariant.terms in
    let head : (first_term (terms_of left)).0 ≡ (first_term (terms_of c.pass.new.rows)).0 = ap (λ r. (first_term r).0) (sym c.pass.ensures.terms) in
    let shorter = shorter-passed greatest behind new c.pass.ensures.left in
    let far : greatest ≤ greatest_first_place behind =
    omega (arith, c.first_places-least.ensures.greatest, greatest_first_place-past least sets c.loop-least.invariant.collected.rows) in
    elim c.if-least-greatest.branch [
      | then-least-greatest w ↦
          let first = get_or left 0 no_term in
          let most : least ≡ greatest_first_place sets = w.if-least-greatest.true ∙ c.first_places-least.ensures.greatest in
          let inside = subst (AreInside (length positions)) (sym c.loop-least.invariant.terms) c.requires.inside in
          let read = read_is positions first.member w.index-positions-first.result w.deref.result.now
          (inside_at (length positions) left 0 inside c.loop-least.invariant.some) (search rules) w.deref.ensures.value in
          let place : first_place (left_in w.deref.result.now first.row) ≡ least = ap (λ r. first_place (left_in r first.row)) read
          ∙ first_is positions left least c.loop-least.invariant.some c.first_places-least.ensures.least most in
          let more : places_of w.push_first.new.self ≡ found ++ least ∷ [] = w.push_first.ensures.all ∙ ap (λ n. found ++ n ∷ []) place in
          let short = shorter-common least sets some known.0 (first-common least sets some c.first_places-least.ensures.least most) in
          let collected = collected-passed greatest all behind new (found ++ least ∷ []) far c.pass.ensures.left
          (collected-common all sets found least c.first_places-least.ensures.least most known.0 c.loop-least.invariant.collected) in
          rw w.common-is (record {
            some = still;
            collected = rw more collected;
            shift = w.push_first.ensures.shift ∙ c.loop-least.invariant.shift;
            first = w.push_first.ensures.shift ∙ c.loop-least.invariant.first ∙ head;
            fits = omega (arith, ap length more, length-append found (least ∷ []), shorter, short, c.loop-least.invariant.fits, w.push_first.ensures.room);
            room = omega (arith, c.loop-least.invariant.room, w.push_first.ensures.room);
            terms = terms;
          })
      | else-least-greatest w ↦
          let apart : least < greatest_first_place sets =
          omega (arith, w.if-least-greatest.false, c.first_places-least.ensures.least, c.first_places-least.ensures.greatest, least_first_place-le sets some) in
          let collected = collected-passed greatest all behind new found far c.pass.ensures.left
          (collected-skip all sets found least c.first_places-least.ensures.least apart known.1 c.loop-least.invariant.collected) in
          rw w.common-is (record {
            some = still;
            collected = collected;
            shift = c.loop-least.invariant.shift;
            first = c.loop-least.invariant.first ∙ head;
            fits = omega (arith, shorter, shorter-past least sets some, c.loop-least.invariant.fits);
            room = c.loop-least.invariant.room;
            terms = terms;
          })
    ]
