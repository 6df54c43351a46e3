-- The places that are read ascend, and there is room for those of the first term.
use Rattle.std.proofs.Common.{◌≡◌, [], All, length, map, min, get_or, ap, arith, sym, subst, ◌∙◌}
use Rattle.std.specs.Vec.{with_items}
use Rattle.qm_combine.proofs.Leading.{whole}
use Rattle.qm_phrase.specs.PhrasePrefix.{IsCommonOf}
use Rattle.qm_phrase.specs.Places.{Ascends, places_of}
use Rattle.qm_phrase.specs.TermRows.{first_term, rows_left, terms_of}
use Rattle.qm_phrase.specs.Terms.{terms_in}
use Rattle.qm_phrase.specs.declared.terms.TermPlaces.{TermPlaces}
use Rattle.qm_phrase.proofs.FullTerms.{IsCommonBuffer-kept, first-fits}
use Rattle.qm_phrase.proofs.TermMoves.{AreTerms-kept, inside-positions, sets-ascend}
use Rattle.qm_phrase.proofs.terms.TermPlaces.common_here.Goals as goal

pub collect_common-requires-clause-some : goal.collect_common-requires-clause-some
collect_common-requires-clause-some g c = omega (arith, ap length c.deref_mut.ensures.value, c.read_places.ensures.kept.valid.some)

pub collect_common-requires-clause-inside : goal.collect_common-requires-clause-inside
collect_common-requires-clause-inside g c =
    rw (c.deref_mut.ensures.value, c.deref.ensures.value) (inside-positions g.P.DocSet c.read_places.new.self c.read_places.ensures.kept.valid)

pub collect_common-requires-clause-rows : goal.collect_common-requires-clause-rows
collect_common-requires-clause-rows g c =
    rw (c.deref_mut.ensures.value, c.deref.ensures.value)
    (subst (All (Ascends 0)) (sym c.read_places.ensures.sets) (sets-ascend g.P.DocSet g.met.P.Postings.ordered c.args.self.now c.requires.valid))

pub collect_common-requires-clause-shift : goal.collect_common-requires-clause-shift
collect_common-requires-clause-shift g c =
    c.requires.common.shift ∙ ap (λ ts. (first_term ts).0) (sym (ap terms_of c.deref_mut.ensures.value ∙ c.read_places.ensures.kept.terms))

pub collect_common-requires-clause-room : goal.collect_common-requires-clause-room
collect_common-requires-clause-room g c =
    let self = c.args.self.now in
    rw (c.deref_mut.ensures.value, c.deref.ensures.value) (omega (
      arith,
      ap (λ r. length (get_or r 0 [])) c.read_places.ensures.sets,
      first-fits g.P.DocSet g.met.P.DocSet.ascending self c.requires.valid,
      c.requires.common.room,
    ))

pub returns-clause-common : goal.returns-clause-common
returns-clause-common g c = subst (λ r. IsCommonOf r (places_of c.collect_common.new.common)) c.read_places.ensures.sets
    (subst (λ r. IsCommonOf (rows_left r c.read_places.new.self.rows.items) (places_of c.collect_common.new.common)) c.deref.ensures.value
    (subst (λ r. IsCommonOf (rows_left c.deref.result.now r) (places_of c.collect_common.new.common)) c.deref_mut.ensures.value
    c.collect_common.ensures.common))

pub returns-clause-count : goal.returns-clause-count
returns-clause-count g c =
    let is = returns-clause-common g c in
    c.len.ensures ∙ ap (min 4294967295) is.number

pub returns-clause-buffer : goal.returns-clause-buffer
returns-clause-buffer g c =
    let D = g.P.DocSet in
    let read = c.read_places.new.self in
    let kept = c.read_places.ensures.kept in
    let new : TermPlaces g.row.P.Denot =
    record { members = read.members; positions = read.positions; rows = with_items read.rows c.collect_common.new.rows } in
    let rows : new.rows.items ≡ c.collect_common.new.rows = whole read.rows.len c.collect_common.new.rows read.rows.items
    (c.collect_common.auto.rows ∙ ap length c.deref_mut.ensures.value) read.rows.ok.0 in
    let terms : terms_in new ≡ terms_in read = ap terms_of rows ∙ c.collect_common.ensures.terms ∙ ap terms_of c.deref_mut.ensures.value in
    IsCommonBuffer-kept D c.args.self.now new c.args.common.now c.collect_common.new.common c.requires.common kept.limits (terms ∙ kept.terms)
    c.collect_common.ensures.shift c.collect_common.ensures.room

pub returns-clause-kept : goal.returns-clause-kept
returns-clause-kept g c =
    let D = g.P.DocSet in
    let read = c.read_places.new.self in
    let kept = c.read_places.ensures.kept in
    let new : TermPlaces g.row.P.Denot =
    record { members = read.members; positions = read.positions; rows = with_items read.rows c.collect_common.new.rows } in
    let rows : new.rows.items ≡ c.collect_common.new.rows = whole read.rows.len c.collect_common.new.rows read.rows.items
    (c.collect_common.auto.rows ∙ ap length c.deref_mut.ensures.value) read.rows.ok.0 in
    let terms : terms_in new ≡ terms_in read = ap terms_of rows ∙ c.collect_common.ensures.terms ∙ ap terms_of c.deref_mut.ensures.value in
    record {
      valid = AreTerms-kept D read new kept.valid terms kept.valid.valid (λ i. map D.limits read.members.items) kept.valid.roomy;
      terms = terms ∙ kept.terms;
      lists = kept.lists;
      limits = kept.limits;
    }
