-- The lesser of the first places is counted where both have it, and passed.
use Rattle.std.proofs.Common.{◌≡◌, ◌≤◌, ℕ, [], ◌∷◌, List, All, min, arith, refl, ap, subst, sym, ◌∙◌}
use Rattle.std.proofs.lemmas.List.Elements.{All-cons, All-head, All-nil, All-tail}
use Rattle.qm_phrase.specs.Places.{Ascends, first_place, greatest_first_place, least_first_place, past, places_left, places_of}
use Rattle.qm_phrase.specs.Starts.{all_places, starts}
use Rattle.qm_phrase.proofs.CommonSteps.{common-starts}
use Rattle.qm_phrase.proofs.PassedPlaces.{Ascends-passed, first_place-passed, starts-passed}
use Rattle.qm_phrase.proofs.StartSteps.{All-past, counted, greatest_first_place-most, greatest_first_place-past, least_first_place-past, starts-ended, within}
use Rattle.qm_phrase.proofs.common_places.count_shared.Goals as goal
use Rattle.qm_phrase.proofs.common_places.count_shared.Goals.{then-place-other, else-place-other}

-- the lesser and the greater of two first places
ends : (a b : List ℕ) (least greatest : ℕ) → All (Ascends 0) (a ∷ b ∷ []) → least ≡ min (first_place a) (first_place b) → (least ≡ least_first_place (a ∷ b ∷ []))
ends a b least greatest rows is = let most = greatest_first_place-most (a ∷ b ∷ []) rows in omega (arith, is, most)

pub loop-count-init : goal.loop-count-init
loop-count-init c =
    let left = c.rewind.ensures.left in
    let row = places_left c.args.row.now in
    record {
      rows = All-cons (Ascends 0) row (places_left c.rewind.new.self ∷ []) c.requires.row
          (All-cons (Ascends 0) (places_left c.rewind.new.self) [] (subst (Ascends 0) (sym left) c.requires.common) (All-nil (Ascends 0)));
      within = omega arith;
      counted = omega (arith, ap (λ r. starts 0 (row ∷ r ∷ [])) left);
      all = c.rewind.ensures.all;
      common_shift = c.rewind.ensures.shift;
      common_room = c.rewind.ensures.room;
      shift = refl;
      room = refl;
    }

pub loop-count-smaller : goal.loop-count-smaller
loop-count-smaller c =
    let a = places_left c.loop-count.row in
    let b = places_left c.loop-count.common in
    let sets = a ∷ b ∷ [] in
    let least = c.min-least.result in
    let is : least ≡ least_first_place sets =
    ends a b least c.max-greatest.result c.loop-count.invariant.rows (omega (arith, c.min-least.ensures, c.first-place.ensures, c.first-other.ensures)) in
    let most : c.max-greatest.result ≡ greatest_first_place sets = omega (arith, c.max-greatest.ensures, c.first-place.ensures, c.first-other.ensures) in
    let known = within sets least c.max-greatest.result (omega arith) is most c.if-greatest-eq-ALL_PLACES.false c.loop-count.invariant.rows in
    let more = least_first_place-past least sets known.0 known.2 in
    let c_row = places_left c.pass.new.self in
    let c_common = places_left c.pass-in-loop-count.new.self in
    let moved : least_first_place (c_row ∷ c_common ∷ []) ≡ least_first_place (past least a ∷ past least b ∷ []) =
    rw (c.pass.ensures.left, c.pass-in-loop-count.ensures.left) refl in
    let rows : All (Ascends 0) (c_row ∷ c_common ∷ []) =
    rw (c.pass.ensures.left, c.pass-in-loop-count.ensures.left) (All-past 0 least sets c.loop-count.invariant.rows) in
    let row_on = first_place-passed c.max-greatest.result c_row (places_left c.pass_below.new.self) c.pass_below.ensures.left
    (All-head (Ascends 0) c_row (c_common ∷ []) rows) in
    let common_on = first_place-passed c.max-greatest.result c_common (places_left c.pass_below-in-loop-count.new.self)
    c.pass_below-in-loop-count.ensures.left (All-head (Ascends 0) c_common [] (All-tail (Ascends 0) c_row (c_common ∷ []) rows)) in
    omega (arith, more, moved, is, known.0, row_on, common_on)

pub loop-count-preserved : goal.loop-count-preserved
loop-count-preserved c =
    let a = places_left c.loop-count.row in
    let b = places_left c.loop-count.common in
    let sets = a ∷ b ∷ [] in
    let least = c.min-least.result in
    let is : least ≡ least_first_place sets =
    ends a b least c.max-greatest.result c.loop-count.invariant.rows (omega (arith, c.min-least.ensures, c.first-place.ensures, c.first-other.ensures)) in
    let most : c.max-greatest.result ≡ greatest_first_place sets = omega (arith, c.max-greatest.ensures, c.first-place.ensures, c.first-other.ensures) in
    let known = within sets least c.max-greatest.result (omega arith) is most c.if-greatest-eq-ALL_PLACES.false c.loop-count.invariant.rows in
    let step = counted sets 0 least is known.0 known.1 known.2 in
    let greatest = c.max-greatest.result in
    let a_left = places_left c.pass.new.self in
    let b_left = places_left c.pass-in-loop-count.new.self in
    let a_new = places_left c.pass_below.new.self in
    let b_new = places_left c.pass_below-in-loop-count.new.self in
    let rows : All (Ascends 0) (a_left ∷ b_left ∷ []) =
    rw (c.pass.ensures.left, c.pass-in-loop-count.ensures.left) (All-past 0 least sets c.loop-count.invariant.rows) in
    let a_ascends = All-head (Ascends 0) a_left (b_left ∷ []) rows in
    let b_ascends = All-head (Ascends 0) b_left [] (All-tail (Ascends 0) a_left (b_left ∷ []) rows) in
    let far : greatest ≤ greatest_first_place (a_left ∷ b_left ∷ []) = omega (
      arith,
      most,
      greatest_first_place-past least sets c.loop-count.invariant.rows,
      ap first_place c.pass.ensures.left,
      ap first_place c.pass-in-loop-count.ensures.left,
    ) in
    let kept : starts 0 (a_new ∷ b_new ∷ []) ≡ starts 0 (a_left ∷ b_left ∷ []) = starts-passed 0 greatest (a_left ∷ b_left ∷ []) (a_new ∷ b_new ∷ [])
    (omega (arith, far)) rows (c.pass_below.ensures.left, (c.pass_below-in-loop-count.ensures.left, tt)) in
    let moved : starts 0 (a_new ∷ b_new ∷ []) ≡ starts 0 (past least a ∷ past least b ∷ []) =
    kept ∙ (rw (c.pass.ensures.left, c.pass-in-loop-count.ensures.left) refl) in
    record {
      rows = All-cons (Ascends 0) a_new (b_new ∷ []) (Ascends-passed 0 greatest a_left a_new c.pass_below.ensures.left a_ascends)
          (All-cons (Ascends 0) b_new [] (Ascends-passed 0 greatest b_left b_new c.pass_below-in-loop-count.ensures.left b_ascends) (All-nil (Ascends 0)));
      within = elim c.if-place-other.branch [ then-place-other w ↦ omega arith | else-place-other w ↦ omega arith ];
      counted = elim c.if-place-other.branch [
        | then-place-other w ↦
            omega (arith, moved, step.0 (omega (arith, is, most, c.max-greatest.ensures, c.min-least.ensures)), c.loop-count.invariant.counted)
        | else-place-other w ↦ omega (
          arith,
          moved,
          step.1 (omega (arith, is, most, c.max-greatest.ensures, c.min-least.ensures, w.if-place-other.false)),
          c.loop-count.invariant.counted,
        )
      ];
      all = c.pass_below-in-loop-count.ensures.all ∙ c.pass-in-loop-count.ensures.all ∙ c.loop-count.invariant.all;
      common_shift = c.pass_below-in-loop-count.ensures.shift ∙ c.pass-in-loop-count.ensures.shift ∙ c.loop-count.invariant.common_shift;
      common_room = c.pass_below-in-loop-count.ensures.room ∙ c.pass-in-loop-count.ensures.room ∙ c.loop-count.invariant.common_room;
      shift = c.pass_below.ensures.shift ∙ c.pass.ensures.shift ∙ c.loop-count.invariant.shift;
      room = c.pass_below.ensures.room ∙ c.pass.ensures.room ∙ c.loop-count.invariant.room;
    }

pub pass_below-requires : goal.pass_below-requires
pass_below-requires c =
    let a = places_left c.loop-count.row in
    let b = places_left c.loop-count.common in
    let rows = All-past 0 c.min-least.result (a ∷ b ∷ []) c.loop-count.invariant.rows in
    rw c.pass.ensures.left (All-head (Ascends 0) (past c.min-least.result a) (past c.min-least.result b ∷ []) rows)

pub pass_below-requires-in-loop-count : goal.pass_below-requires-in-loop-count
pass_below-requires-in-loop-count c =
    let a = places_left c.loop-count.row in
    let b = places_left c.loop-count.common in
    let least = c.min-least.result in
    let rows = All-past 0 least (a ∷ b ∷ []) c.loop-count.invariant.rows in
    rw c.pass-in-loop-count.ensures.left
    (All-head (Ascends 0) (past least b) [] (All-tail (Ascends 0) (past least a) (past least b ∷ []) rows))

pub returns-after-loop-count-clause-count : goal.returns-after-loop-count-clause-count
returns-after-loop-count-clause-count c =
    let sets = places_left c.args.row.now ∷ places_of c.args.common.now ∷ [] in
    omega (arith, c.loop-count.invariant.counted, c.loop-count.invariant.within, common-starts sets (omega arith))

pub returns-then-greatest-eq-ALL_PLACES-clause-count : goal.returns-then-greatest-eq-ALL_PLACES-clause-count
returns-then-greatest-eq-ALL_PLACES-clause-count c =
    let sets = places_left c.args.row.now ∷ places_of c.args.common.now ∷ [] in
    let left = places_left c.loop-count.row ∷ places_left c.loop-count.common ∷ [] in
    let most : greatest_first_place left ≡ all_places = omega (arith, c.max-greatest.ensures, c.first-place.ensures, c.first-other.ensures, c.if-greatest-eq-ALL_PLACES.true) in
    omega (
      arith,
      starts-ended 0 left most c.loop-count.invariant.rows,
      c.loop-count.invariant.counted,
      c.loop-count.invariant.within,
      common-starts sets (omega arith),
    )
