-- The terms as they are handed in, beside their buffers.
use Rattle.std.proofs.Common.{map, ap, refl, subst, vec_capacity, ◌∙◌}
use Rattle.qm_docset.specs.Lists.{bounds}
use Rattle.qm_phrase.specs.Terms.{AreRoomy}
use Rattle.qm_phrase.specs.declared.terms.TermPlaces.{TermPlaces}
use Rattle.qm_phrase.proofs.HandedIn.{AreTerms-made, lists-made, placed, shifts-made}
use Rattle.qm_phrase.proofs.terms.TermPlaces.new.Goals as goal

pub returns-clause-valid : goal.returns-clause-valid
returns-clause-valid g c =
    let buffers = c.in_ok-positions.positions.items in
    let roomy = subst (λ ms. AreRoomy (bounds g.P.DocSet ms) (map vec_capacity buffers)) c.deref.ensures.value c.in_ok-positions.ensures in
    let terms = c.in_ok-rows.ensures ∙ ap (map (placed c.args.greatest)) c.deref-2.ensures.value in
    AreTerms-made g.P.DocSet c.args.terms _ c.args.greatest c.requires.some c.requires.greatest c.requires.valid refl roomy terms

pub returns-clause-shifts : goal.returns-clause-shifts
returns-clause-shifts g c =
    let made : TermPlaces g.row.P.Denot =
    record { members = c.args.terms.members; positions = c.in_ok-positions.positions; rows = c.in_ok-rows.rows } in
    shifts-made g.P.DocSet c.args.terms made c.args.greatest (c.in_ok-rows.ensures ∙ ap (map (placed c.args.greatest)) c.deref-2.ensures.value)

pub returns-clause-lists : goal.returns-clause-lists
returns-clause-lists g c =
    let made : TermPlaces g.row.P.Denot =
    record { members = c.args.terms.members; positions = c.in_ok-positions.positions; rows = c.in_ok-rows.rows } in
    lists-made g.P.DocSet c.args.terms made c.args.greatest refl (c.in_ok-rows.ensures ∙ ap (map (placed c.args.greatest)) c.deref-2.ensures.value)
