-- The same members, which stand where they stood.
use Rattle.std.proofs.Common.{◌≡◌, ◌<◌, All, length, map, ap, refl, sym, subst, ◌∙◌}
use Rattle.std.specs.Vec.{with_items}
use Rattle.qm_combine.proofs.Leading.{whole}
use Rattle.qm_docset.specs.Entry.{head_document}
use Rattle.qm_docset.specs.Lists.{bounds}
use Rattle.qm_docset.specs.declared.numbers.TheConstants.{TERMINATED}
use Rattle.qm_phrase.specs.declared.terms.TermPlaces.{TermPlaces}
use Rattle.qm_phrase.proofs.TermMoves.{AreTerms-kept}
use Rattle.qm_phrase.proofs.terms.TermPlaces.find_places.Goals as goal

pub returns-clause-kept : goal.returns-clause-kept
returns-clause-kept g c =
    let D = g.P.DocSet in
    let self = c.args.self.now in
    let found = c.find_each.new.members in
    let was = c.deref_mut.ensures.value in
    let new : TermPlaces g.row.P.Denot =
    record { members = with_items self.members found; positions = self.positions; rows = self.rows } in
    let is : new.members.items ≡ found =
    whole self.members.len found self.members.items (c.find_each.auto.members ∙ ap length was) self.members.ok.0 in
    let limits : bounds D new.members.items ≡ bounds D self.members.items =
    ap (map D.limits) is ∙ c.find_each.ensures.limits ∙ ap (map D.limits) was in
    record {
      valid = AreTerms-kept D self new c.requires.valid refl (rw is c.find_each.ensures.valid) limits (rw limits c.requires.valid.roomy);
      terms = refl;
      lists = ap (map D.entries) is ∙ c.find_each.ensures.entries ∙ ap (map D.entries) was;
      limits = limits;
    }

pub returns-clause-here : goal.returns-clause-here
returns-clause-here g c =
    let D = g.P.DocSet in
    let self = c.args.self.now in
    let found = c.find_each.new.members in
    let is = whole self.members.len found self.members.items (c.find_each.auto.members ∙ ap length c.deref_mut.ensures.value) self.members.ok.0 in
    subst (All (λ m. D.placed m × (head_document (D.entries m) < TERMINATED))) (sym is) c.find_each.ensures.here
