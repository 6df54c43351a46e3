-- The members are read, and the terms begin anew.
use Rattle.std.proofs.Common.{◌≡◌, length, map, ap, ◌∙◌}
use Rattle.std.specs.Vec.{with_items}
use Rattle.qm_combine.proofs.Leading.{whole}
use Rattle.qm_docset.specs.Entry.{head_positions}
use Rattle.qm_docset.specs.Lists.{bounds, lists}
use Rattle.qm_phrase.specs.Phrase.{shifted_each}
use Rattle.qm_phrase.specs.TermRows.{each_of, rows_left, terms_of}
use Rattle.qm_phrase.specs.Terms.{unpassed, shifts_in, terms_in}
use Rattle.qm_phrase.specs.declared.terms.TermPlaces.{TermPlaces}
use Rattle.qm_phrase.proofs.TermMoves.{AreTerms-kept}
use Rattle.qm_phrase.proofs.TermRows.{rows_left-begun, terms_of-begun}
use Rattle.qm_phrase.proofs.terms.TermPlaces.read_places.Goals as goal

pub returns-clause-sets : goal.returns-clause-sets
returns-clause-sets g c =
    let self = c.args.self.now in
    let read = c.read_positions.new.positions in
    let positions = whole self.positions.len read self.positions.items
    (c.read_positions.auto.positions ∙ ap length c.deref_mut-2.ensures.value) self.positions.ok.0 in
    let rows = whole self.rows.len c.rewind.new.rows self.rows.items (c.rewind.auto.rows ∙ ap length c.deref_mut-3.ensures.value) self.rows.ok.0 in
    rw (positions, rows) (ap (rows_left read) (c.rewind.ensures ∙ ap (map unpassed) c.deref_mut-3.ensures.value) ∙ rows_left-begun read self.rows.items
    ∙ ap (λ r. shifted_each (shifts_in self) (each_of r (terms_in self)))
    (c.read_positions.ensures.positions ∙ ap (λ ms. map head_positions (lists g.P.DocSet ms)) c.deref_mut.ensures.value))

pub returns-clause-kept : goal.returns-clause-kept
returns-clause-kept g c =
    let D = g.P.DocSet in
    let self = c.args.self.now in
    let read = c.read_positions in
    let new : TermPlaces g.row.P.Denot = record {
      members = with_items self.members read.new.members;
      positions = with_items self.positions read.new.positions;
      rows = with_items self.rows c.rewind.new.rows;
    } in
    let members : new.members.items ≡ read.new.members =
    whole self.members.len read.new.members self.members.items (read.auto.members ∙ ap length c.deref_mut.ensures.value) self.members.ok.0 in
    let positions : new.positions.items ≡ read.new.positions =
    whole self.positions.len read.new.positions self.positions.items (read.auto.positions ∙ ap length c.deref_mut-2.ensures.value) self.positions.ok.0 in
    let rows : new.rows.items ≡ c.rewind.new.rows =
    whole self.rows.len c.rewind.new.rows self.rows.items (c.rewind.auto.rows ∙ ap length c.deref_mut-3.ensures.value) self.rows.ok.0 in
    let terms : terms_in new ≡ terms_in self =
    ap terms_of (rows ∙ c.rewind.ensures ∙ ap (map unpassed) c.deref_mut-3.ensures.value) ∙ terms_of-begun self.rows.items in
    let limits : bounds D new.members.items ≡ bounds D self.members.items =
    ap (map D.limits) members ∙ read.ensures.limits ∙ ap (map D.limits) c.deref_mut.ensures.value in
    record {
      valid = AreTerms-kept D self new c.requires.valid terms (rw members read.ensures.valid) limits (rw (members, positions) read.ensures.roomy);
      terms = terms;
      lists = ap (map D.entries) members ∙ read.ensures.entries ∙ ap (map D.entries) c.deref_mut.ensures.value;
      limits = limits;
    }
