-- The lesser of the next places is counted where it is a start, and passed.
use mir.Val.{bool_byte}
use Rattle.std.proofs.Common.{◌≡◌, ◌<◌, ◌+◌, ℕ, zero, suc, [], ◌∷◌, List, All, drop, get_or, length, min, max, nat_eq, arith, inl, inr, refl, ap, ◌∙◌}
use Rattle.std.proofs.lemmas.Bool.{cases_eq, eq-eqb, ne_eqb}
use Rattle.std.proofs.lemmas.List.{drop_all}
use Rattle.std.proofs.lemmas.List.Elements.{All-head, All-tail}
use Rattle.qm_postings.specs.Positions.{shifted}
use Rattle.qm_phrase.specs.Places.{Ascends, first_place, greatest_first_place, least_first_place, past}
use Rattle.qm_phrase.specs.Starts.{all_places, starts}
use Rattle.qm_phrase.proofs.StartSteps.{All-past, counted, greatest_first_place-most, past-first, starts-ended, within}
use Rattle.qm_phrase.proofs.pair.count_pair.Goals as goal
use Rattle.qm_phrase.proofs.pair.count_pair.Goals.{then-max-least, else-max-least}

-- the first place that is left
first_of : (shift n : ℕ) (ps : List ℕ) → n < length ps → Ascends 0 (shifted shift (drop n ps)) →
    (first_place (shifted shift (drop n ps)) ≡ get_or ps n 0 + shift) × (get_or ps n 0 + shift < all_places)
first_of shift n [] h a = absurd (omega arith)
first_of shift zero (p ∷ ps) h a = (refl, a.1)
first_of shift (suc n) (p ∷ ps) h a = first_of shift n ps (omega arith) a

-- where another place is the least, none is passed
past-other : (x : ℕ) (s : List ℕ) → (first_place s ≡ x → ⊥) → s ≡ past x s
past-other x [] other = refl
past-other x (p ∷ ps) other = rw (ne_eqb p x other) refl

passes : (x shift n place k : ℕ) (ps : List ℕ) → x < all_places → first_place (shifted shift (drop n ps)) ≡ place →
    k ≡ bool_byte (nat_eq place x) → shifted shift (drop (n + k) ps) ≡ past x (shifted shift (drop n ps))
passes x shift n place k ps below first is =
    elim (cases_eq place x) [
      | inl here ↦
          let one : k ≡ 1 = is ∙ ap bool_byte (eq-eqb place x here) in
          ap (λ m. shifted shift (drop (n + m) ps)) one ∙ past-first x shift n ps below (first ∙ here)
      | inr apart ↦
          let none : n + k ≡ n = omega (arith, is ∙ ap bool_byte (ne_eqb place x apart)) in
          ap (λ m. shifted shift (drop m ps)) none ∙ past-other x (shifted shift (drop n ps)) (omega (arith, first, apart))
    ]

-- what is known of the lesser and the greater of two first places
record IsStep (sets : List (List ℕ)) (least greatest : ℕ) : Type 0 where
  is : least ≡ least_first_place sets
  most : greatest ≡ greatest_first_place sets
  under : least < all_places
  below : greatest_first_place sets < all_places
  rows : All (Ascends least) sets

step : (a b : List ℕ) (place other least greatest : ℕ) → All (Ascends 0) (a ∷ b ∷ []) → first_place a ≡ place → first_place b ≡ other →
    place < all_places → other < all_places → least ≡ min place other → greatest ≡ max place other → IsStep (a ∷ b ∷ []) least greatest
step a b place other least greatest rows first second low high lesser greater =
    let most = greatest_first_place-most (a ∷ b ∷ []) rows in
    let is : least ≡ least_first_place (a ∷ b ∷ []) = omega (arith, lesser, first, second, low, high) in
    let same : greatest ≡ greatest_first_place (a ∷ b ∷ []) = omega (arith, greater, first, second) in
    let known = within (a ∷ b ∷ []) least greatest (omega arith) is same (omega (arith, greater, low, high)) rows in
    record { is = is; most = same; under = known.0; below = known.1; rows = known.2 }

pub loop-count-preserved : goal.loop-count-preserved
loop-count-preserved c =
    let a = shifted c.args.shift (drop c.loop-count.passed c.args.positions.now) in
    let b = shifted c.args.other_shift (drop c.loop-count.other_passed c.args.other_positions.now) in
    let least = c.min-least.result in
    let rows = c.loop-count.invariant.rows in
    let one = first_of c.args.shift c.loop-count.passed c.args.positions.now c.if-passed-positions.true (All-head (Ascends 0) a (b ∷ []) rows) in
    let other = first_of c.args.other_shift c.loop-count.other_passed c.args.other_positions.now c.if-other_passed-other_positions.true
    (All-head (Ascends 0) b [] (All-tail (Ascends 0) a (b ∷ []) rows)) in
    let first : first_place a ≡ c.from.result + c.from-in-loop-count.result = omega (arith, one.0, c.from.ensures, c.from-in-loop-count.ensures) in
    let second : first_place b ≡ c.from-in-loop-count-2.result + c.from-in-loop-count-3.result =
    omega (arith, other.0, c.from-in-loop-count-2.ensures, c.from-in-loop-count-3.ensures) in
    let known = step a b (c.from.result + c.from-in-loop-count.result) (c.from-in-loop-count-2.result + c.from-in-loop-count-3.result) least
    c.max.result rows first second (omega (arith, one, first)) (omega (arith, other, second)) c.min-least.ensures c.max.ensures in
    let start = counted (a ∷ b ∷ []) c.args.slop least known.is known.under known.below known.rows in
    let here = passes least c.args.shift c.loop-count.passed (c.from.result + c.from-in-loop-count.result) c.from-passed.result c.args.positions.now
    known.under first c.from-passed.ensures in
    let there = passes least c.args.other_shift c.loop-count.other_passed (c.from-in-loop-count-2.result + c.from-in-loop-count-3.result)
    c.from-other_passed.result c.args.other_positions.now known.under second c.from-other_passed.ensures in
    let slop = c.from-in-loop-count-4.ensures in
    record {
      rows = rw (here, there) (All-past 0 least (a ∷ b ∷ []) rows);
      within = elim c.if-max-least.branch [ then-max-least w ↦ omega arith | else-max-least w ↦ omega arith ];
      counted = rw (here, there) (elim c.if-max-least.branch [
        | then-max-least w ↦ omega (arith, start.0 (omega (arith, known.most, slop, w.if-max-least.true)), c.loop-count.invariant.counted, w.count-is)
        | else-max-least w ↦ omega (arith, start.1 (omega (arith, known.most, slop, w.if-max-least.false)), c.loop-count.invariant.counted, w.count-is)
      ]);
    }

-- where a term has no place left, there is no start left
ended : (a b : List ℕ) (slop : ℕ) → All (Ascends 0) (a ∷ b ∷ []) → max (first_place a) (first_place b) ≡ all_places → starts slop (a ∷ b ∷ []) ≡ 0
ended a b slop rows none = starts-ended slop (a ∷ b ∷ []) (omega (arith, none)) rows

pub returns-else-passed-positions : goal.returns-else-passed-positions
returns-else-passed-positions c =
    let a = shifted c.args.shift (drop c.loop-count.passed c.args.positions.now) in
    let b = shifted c.args.other_shift (drop c.loop-count.other_passed c.args.other_positions.now) in
    let none : first_place a ≡ all_places = ap (λ r. first_place (shifted c.args.shift r)) (drop_all c.loop-count.passed c.args.positions.now
    c.if-passed-positions.false) in
    let most = greatest_first_place-most (a ∷ b ∷ []) c.loop-count.invariant.rows in
    omega (arith, ended a b c.args.slop c.loop-count.invariant.rows (omega (arith, none, most)), c.loop-count.invariant.counted, c.loop-count.invariant.within)

pub returns-else-other_passed-other_positions : goal.returns-else-other_passed-other_positions
returns-else-other_passed-other_positions c =
    let a = shifted c.args.shift (drop c.loop-count.passed c.args.positions.now) in
    let b = shifted c.args.other_shift (drop c.loop-count.other_passed c.args.other_positions.now) in
    let none : first_place b ≡ all_places = ap (λ r. first_place (shifted c.args.other_shift r)) (drop_all c.loop-count.other_passed
    c.args.other_positions.now c.if-other_passed-other_positions.false) in
    let most = greatest_first_place-most (a ∷ b ∷ []) c.loop-count.invariant.rows in
    omega (arith, ended a b c.args.slop c.loop-count.invariant.rows (omega (arith, none, most)), c.loop-count.invariant.counted, c.loop-count.invariant.within)
