-- The places that are read are counted.
use Rattle.std.proofs.Common.{◌≡◌, All, length, map, min, ap, arith, subst, sym, ◌∙◌}
use Rattle.std.specs.Vec.{with_items}
use Rattle.qm_combine.proofs.Leading.{whole}
use Rattle.qm_phrase.specs.Places.{Ascends}
use Rattle.qm_phrase.specs.Starts.{starts}
use Rattle.qm_phrase.specs.TermRows.{rows_left, terms_of}
use Rattle.qm_phrase.specs.Terms.{terms_in}
use Rattle.qm_phrase.specs.declared.terms.TermPlaces.{TermPlaces}
use Rattle.qm_phrase.proofs.TermMoves.{AreKept-both, AreTerms-kept, inside-positions, sets-ascend, sets_here-kept}
use Rattle.qm_phrase.proofs.terms.TermPlaces.count_here.Goals as goal

pub count_starts-requires-clause-some : goal.count_starts-requires-clause-some
count_starts-requires-clause-some g c = omega (arith, ap length c.deref_mut.ensures.value, c.read_places.ensures.kept.valid.some)

pub count_starts-requires-clause-inside : goal.count_starts-requires-clause-inside
count_starts-requires-clause-inside g c =
    rw (c.deref_mut.ensures.value, c.deref.ensures.value) (inside-positions g.P.DocSet c.read_places.new.self c.read_places.ensures.kept.valid)

pub count_starts-requires-clause-rows : goal.count_starts-requires-clause-rows
count_starts-requires-clause-rows g c =
    rw (c.deref_mut.ensures.value, c.deref.ensures.value)
    (subst (All (Ascends 0)) (sym c.read_places.ensures.sets) (sets-ascend g.P.DocSet g.met.P.Postings.ordered c.count_lent.new.self
    c.count_lent.ensures.kept.valid))

pub returns-clause-count : goal.returns-clause-count
returns-clause-count g c =
    let read = c.read_places.new.self in
    c.count_starts.ensures.count
    ∙ ap (λ r. min c.args.most (starts c.args.slop (rows_left c.deref.result.now r))) c.deref_mut.ensures.value
    ∙ ap (λ r. min c.args.most (starts c.args.slop (rows_left r read.rows.items))) c.deref.ensures.value
    ∙ ap (λ r. min c.args.most (starts c.args.slop r)) (c.read_places.ensures.sets
    ∙ sets_here-kept g.P.DocSet c.args.self.now c.count_lent.new.self c.count_lent.ensures.kept)

pub returns-clause-kept : goal.returns-clause-kept
returns-clause-kept g c =
    let D = g.P.DocSet in
    let read = c.read_places.new.self in
    let kept = AreKept-both D c.args.self.now c.count_lent.new.self read c.count_lent.ensures.kept c.read_places.ensures.kept in
    let new : TermPlaces g.row.P.Denot =
    record { members = read.members; positions = read.positions; rows = with_items read.rows c.count_starts.new.rows } in
    let rows : new.rows.items ≡ c.count_starts.new.rows = whole read.rows.len c.count_starts.new.rows read.rows.items
    (c.count_starts.auto.rows ∙ ap length c.deref_mut.ensures.value) read.rows.ok.0 in
    let terms : terms_in new ≡ terms_in read = ap terms_of rows ∙ c.count_starts.ensures.terms ∙ ap terms_of c.deref_mut.ensures.value in
    record {
      valid = AreTerms-kept D read new kept.valid terms kept.valid.valid (λ i. map D.limits read.members.items) kept.valid.roomy;
      terms = terms ∙ kept.terms;
      lists = kept.lists;
      limits = kept.limits;
    }
