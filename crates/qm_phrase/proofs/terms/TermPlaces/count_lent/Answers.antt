-- What the first two terms count, where it says what all do.
use Rattle.std.proofs.Common.{◌≡◌, take, ap, arith}
use Rattle.qm_phrase.specs.Starts.{starts}
use Rattle.qm_phrase.specs.Terms.{sets_here}
use Rattle.qm_phrase.proofs.PairStarts.{starts-front}
use Rattle.qm_phrase.proofs.TermMoves.{sets-ascend, sets_here-kept}
use Rattle.qm_phrase.proofs.terms.TermPlaces.count_lent.Goals as goal

pub returns-in-0-clause-count : goal.returns-in-0-clause-count
returns-in-0-clause-count g c =
    let D = g.P.DocSet in
    let found = c.find_places.new.self in
    let kept = c.find_places.ensures.kept in
    let none : starts c.args.slop (take 2 (sets_here D found)) ≡ 0 = omega (arith, c.in_ok-count_both.ensures, c.in-0.is) in
    let all = starts-front c.args.slop (sets_here D found) (sets-ascend D g.met.P.Postings.ordered found kept.valid) none in
    omega (arith, all, ap (starts c.args.slop) (sets_here-kept D c.args.self.now found kept))
