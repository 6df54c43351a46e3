-- The term stands at the place.
use Rattle.std.proofs.Common.{◌≡◌, ◌<◌, Some, arith, get_or, length, refl, subst}
use Rattle.std.specs.List.{slice_get}
use Rattle.qm_postings.specs.Reading.{Reader}
use Rattle.qm_postings.proofs.TermPlaces.{place_of}
use Rattle.qm_postings.proofs.inverted_index.place_of.guessed_place.Goals as goal

pub returns-then-is_of : goal.returns-then-is_of
returns-then-is_of c =
    let terms = c.reader.inside.terms.items in
    let place = get_or c.guesses_from-guess-items.result.now c.loop-guess.guess-index 0 in
    let t = c.args.sought.term.now in
    let within : place < length terms = omega (arith, c.if-place-len.true, c.len.ensures, c.reader.inside.terms.ok.0) in
    let Placed : Reader → Type 0 = λ v. slice_get v.terms place ≡ Some t in
    subst Placed c.reader.view_is (place_of terms t place c.index.result.now within c.index.ensures (c.if-is_of.ensures refl))
