use Rattle.std.proofs.Common.{◌≡◌, ◌+◌, ◌-◌, ◌*◌, ◌<◌, ◌≤◌, ◌∙◌, ◌++◌, ap, append_assoc, arith, drop, length, subst, sym, take}
use Rattle.std.specs.Prelude.{All}
use Rattle.std.specs.List.{flat_map}
use Rattle.std.proofs.lemmas.List.{length-append, take_all}
use Rattle.std.proofs.lemmas.List.Elements.{All-append}
use Rattle.qm_store.specs.Places.{IsPlace, piece_count, piece_len, piece_of, piece_sealed, place_bytes}
use Rattle.qm_store.specs.Sealed.{sealed_at}
use Rattle.qm_store.proofs.PlaceSteps.{first-piece, length-sealed, piece-within, pieces, pieces-enough, take-piece}
use Rattle.qm_store.proofs.written_places.push_pieces.Goals as goal

pub loop-number-preserved : goal.loop-number-preserved
loop-number-preserved c =
    let at = c.loop-number in
    let key = c.args.key in
    let places = c.args.places.now in
    let n = length places in
    let k = at.number in
    let some : k < piece_count n = omega (arith, c.div_ceil-number-end.ensures, c.loop-number-test.true) in
    let there = piece-within key places k some in
    let start = at.invariant.start there in
    let len : k * 256 + c.min.result - k * 256 ≡ piece_len n k = omega (arith, c.min.ensures) in
    let added : c.push_piece.new.out.items ≡ at.out.items ++ piece_sealed key places k =
    c.in_ok-push_piece.ensures.added
    ∙ (λ i. at.out.items ++ sealed_at key (start i) (flat_map place_bytes (take (len i) (drop (k * 256) places))))
    in
    let rest = pieces key places (k + 1) (piece_count n - (k + 1)) in
    record {
      whole =
          ap (λ l. l ++ rest) added ∙ append_assoc at.out.items (piece_sealed key places k) rest
          ∙ ap (λ l. at.out.items ++ l) (sym (first-piece key places k some)) ∙ at.invariant.whole;
      start = λ more. omega (arith, ap length added, length-append at.out.items (piece_sealed key places k), length-sealed key places k, start, more);
      places =
          subst (All IsPlace) (sym (take-piece key places k))
          (All-append IsPlace (take (k * 256) places) (piece_of places k) at.invariant.places
          (subst (λ m. All IsPlace (take m (drop (k * 256) places))) len c.in_ok-push_piece.ensures.places));
    }

pub returns-clause-places : goal.returns-clause-places
returns-clause-places c =
    let at = c.loop-number in
    let places = c.args.places.now in
    let past : length places ≤ at.number * 256 =
    omega (arith, c.div_ceil-number-end.ensures, c.loop-number-test.false, pieces-enough c.args.key places)
    in
    subst (All IsPlace) (take_all (at.number * 256) places past) at.invariant.places
